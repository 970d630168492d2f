-- Why the steps of a walk are refused, and what they may ask.
use Rattle.std.proofs.Common.{◌≡◌, ℕ, inl, inr, ◌⊎◌, List, [], ◌∷◌, ◌++◌, Bool, true, false, ◌&&◌, ◌==◌, if◌then◌else◌}
use Rattle.std.proofs.Common.{Option, Some, None, is_some, refl, sym, ap, ◌∙◌, subst, eq-eqb, append_assoc}
use Rattle.std.specs.Prelude.{All, IfSome, IfOk}
use Rattle.std.proofs.lemmas.List.{append-nil, append_cancel_left}
use Rattle.std.proofs.lemmas.List.Elements.{All-nil, All-cons, All-head, All-tail, All-append}
use Rattle.nofs_dirent.specs.declared.entry.Entry.{Entry}
use Rattle.nofs_model.specs.Files.{FileState, Files, entry_at}
use Rattle.nofs_history.specs.Search.{first_of}
use Rattle.nofs_history.specs.Machine.{found, is_folder_at}
use Rattle.nofs_history.specs.World.{World}
use Rattle.nofs_history.specs.Answers.{found_reply, found_entry, found_file}
use Rattle.nofs_history.specs.Steps.{Made, Fits, is_out_of_memory}
use Rattle.nofs_history.specs.declared.machine.replies.Found.{Found}
use Rattle.nofs_history.specs.declared.machine.steps.Step.{Step}
use Rattle.nofs_history.specs.declared.machine.steps.Step.TheVariants as step
use Rattle.nofs_history.specs.declared.machine.replies.Reply.{Reply}
use Rattle.nofs_history.specs.declared.machine.replies.Reply.TheVariants as reply
use Rattle.nofs_history.specs.declared.machine.replies.Refusal.{Refusal}
use Rattle.nofs_salvage.specs.declared.report.answers.InodeHandle.{InodeHandle}
use Rattle.nofs_salvage.specs.Walk.Steps.{MakesReads, IsAccepted, refusal_of, first_refusal, found_by}
use Rattle.nofs_salvage.specs.Walk.Steps.{size_by, listed_by}
use Rattle.nofs_salvage.specs.Walk.Answers.{IsAnswered, AreAnswered}
use Rattle.nofs_salvage.specs.Report.Losses.{inode_found}
use Rattle.nofs_salvage.specs.Walk.Refusals.{is_there, HasRoots, MayRefuse, IsFair, AreFair, MakesOne, MayAsk, LeadsTo}
use Rattle.nofs_salvage.specs.Report.Inodes.{root_handle, label_handle}
use Rattle.nofs_salvage.specs.Report.Lines.{IsFolderPart}
use Rattle.nofs_salvage.proofs.OnWalk.Steps.{answered-both, answered-one}
use Rattle.nofs_salvage.proofs.OnWalk.Answers.{clash, accepted-done}
use Rattle.nofs_salvage.proofs.OnWalk.Rows.{get-right, there-none, stat-cause, list-cause, get-cause, look-cause}
use Rattle.nofs_salvage.proofs.OnWalk.Rows.{answered-right}

-- From step to step

pub right-none : (F : Files) (old : List Made) → AreFair F old old
right-none F old = record { made = []; more = sym (append-nil old); each = All-nil (IsFair F) }

right-all : (F : Files) (old mid new : List Made) → AreFair F old mid → AreFair F mid new → AreFair F old new
right-all F old mid new a b = record {
  made = a.made ++ b.made;
  more = b.more ∙ ap (λ l. l ++ b.made) a.more ∙ append_assoc old a.made b.made;
  each = All-append (IsFair F) a.made b.made a.each b.each;
}

-- behind steps that were right more were made
pub right-on : (W : World) (old mid new : List Made) (a b : Option Refusal) → MakesReads old mid a
    → MakesReads mid new b → AreAnswered W old new
    → (AreAnswered W old mid → AreFair W.files old mid) → (AreAnswered W mid new → AreFair W.files mid new)
    → AreFair W.files old new
right-on W old mid new a b first last h left right =
    let both = answered-both W old mid new a b first last h in
    right-all W.files old mid new (left both.0) (right both.1)

one-right : (W : World) (old new : List Made) (s : Step) → MakesOne old new s → AreAnswered W old new
    → ((r : Reply) → IsAnswered W (s, r) → IsFair W.files (s, r)) → AreFair W.files old new
one-right W old new s one a right = go (is_out_of_memory one.reply) one.more
  where
    go : (b : Bool) → new ≡ (if b then old else old ++ (s, one.reply) ∷ []) → AreFair W.files old new
    go true is = record { made = []; more = is ∙ sym (append-nil old); each = All-nil (IsFair W.files) }
    go false is = record {
      made = (s, one.reply) ∷ [];
      more = is;
      each = All-cons (IsFair W.files) (s, one.reply) [] (right one.reply (answered-one W old new (s, one.reply) is a))
          (All-nil (IsFair W.files));
    }

module _ (W : World) (old new : List Made) (at : InodeHandle) where
  pub stat-right : (folder : Bool) → MayAsk W.files folder at → MakesOne old new (step.Stat at.inode at.generation)
      → AreAnswered W old new
      → AreFair W.files old new
  stat-right folder ask one a = one-right W old new (step.Stat at.inode at.generation) one a
      (λ r. answered-right W (step.Stat at.inode at.generation) r refl
      (λ U V why files c. stat-cause U V at.inode at.generation why
      (either folder (subst (λ (F : Files). MayAsk F folder at) (sym files) ask)) c))
    where
      either : {F : Files} (b : Bool) → MayAsk F b at → MayAsk F true at ⊎ MayAsk F false at
      either true x = inl x
      either false x = inr x

  pub list-right : (k : ℕ) → MayAsk W.files true at → MakesOne old new (step.List at.inode at.generation k)
      → AreAnswered W old new → AreFair W.files old new
  list-right k ask one a = one-right W old new (step.List at.inode at.generation k) one a
      (λ r. answered-right W (step.List at.inode at.generation k) r refl
      (λ U V why files c. list-cause U V at.inode at.generation why k
      (subst (λ (F : Files). MayAsk F true at) (sym files) ask) c))

  pub get-right-one : (k : ℕ) → MayAsk W.files false at → MakesOne old new (step.Get at.inode at.generation k)
      → AreAnswered W old new
      → AreFair W.files old new
  get-right-one k ask one a = one-right W old new (step.Get at.inode at.generation k) one a
      (λ r. answered-right W (step.Get at.inode at.generation k) r refl
      (λ U V why files c. get-right U.files why
      (get-cause U V at.inode at.generation why k (subst (λ (F : Files). MayAsk F false at) (sym files) ask) c)))

  pub look-right : (name : List ℕ) (folder : Bool) → MayAsk W.files true at → LeadsTo W.files at.inode name folder
      → MakesOne old new (step.Look at.inode at.generation name) → AreAnswered W old new → AreFair W.files old new
  look-right name folder ask leads one a = one-right W old new (step.Look at.inode at.generation name) one a
      (λ r. answered-right W (step.Look at.inode at.generation name) r refl
      (λ U V why files c. look-cause U V at.inode at.generation why name folder
      (subst (λ (F : Files). MayAsk F true at) (sym files) ask)
      (subst (λ (F : Files). LeadsTo F at.inode name folder) (sym files) leads) c))

-- The first refusal

first-right : (F : Files) (ms : List Made) → All (IsFair F) ms → IfSome (first_refusal ms) (MayRefuse F)
first-right F [] h = tt
first-right F (m ∷ ms) h =
    go (refusal_of m) (All-head (IsFair F) m ms h) (first-right F ms (All-tail (IsFair F) m ms h))
  where
    only : (o : Option Refusal) → IfSome o (MayRefuse F) → IfSome (first_of (o ∷ [])) (MayRefuse F)
    only None x = tt
    only (Some why) x = x

    go : (o : Option Refusal) → IfSome o (MayRefuse F) → IfSome (first_refusal ms) (MayRefuse F)
        → IfSome (first_of (o ∷ first_refusal ms ∷ [])) (MayRefuse F)
    go None x rest = only (first_refusal ms) rest
    go (Some why) x rest = x

-- what the walk ends with
pub refused-right : (F : Files) (old new : List Made) (why : Option Refusal) → MakesReads old new why
    → AreFair F old new → IfSome why (MayRefuse F)
refused-right F old new why reads right =
    let same : right.made ≡ reads.made = append_cancel_left old right.made reads.made (sym right.more ∙ reads.more) in
    subst (λ (o : Option Refusal). IfSome o (MayRefuse F)) (ap first_refusal same ∙ reads.refused)
    (first-right F right.made right.each)

-- What is there

stat-there : (W : World) (old new : List Made) (i g : ℕ) (r : Reply) → IsAccepted old new (step.Stat i g) r
    → AreAnswered W old new
    → is_there W.files i g ≡ true
stat-there W old new i g r is a =
    let d = accepted-done W old new (step.Stat i g) r is a in
    subst (λ (F : Files). is_there F i g ≡ true) d.files (there-none (is_there d.before.files i g) [] d.no_row)

list-there : (W : World) (old new : List Made) (i g k : ℕ) (r : Reply) → IsAccepted old new (step.List i g k) r
    → AreAnswered W old new
    → is_there W.files i g ≡ true
list-there W old new i g k r is a =
    let d = accepted-done W old new (step.List i g k) r is a in
    subst (λ (F : Files). is_there F i g ≡ true) d.files (there-none (is_there d.before.files i g) _ d.no_row)

there-file : (F : Files) (i : ℕ) (f : FileState) → F i ≡ Some f → is_there F i f.generation ≡ true
there-file F i f is =
    ap (λ (o : Option FileState). is_some o && ((elim o [ None ↦ 0 | Some q ↦ q.generation ]) == f.generation)) is
    ∙ eq-eqb f.generation f.generation refl

file-there : (F : Files) (i : ℕ) (x : Found) (o : Option FileState) → F i ≡ o → reply.Found x ≡ found_file i o
    → is_there F x.inode x.generation ≡ true
file-there F i x None is h = absurd (cc h)
file-there F i x (Some f) is h =
    let inode : i ≡ x.inode = sym (ap (λ r. elim r [ reply.Found y ↦ y.inode | _ ↦ 0 ]) h) in
    let generation : f.generation ≡ x.generation = sym (ap (λ r. elim r [ reply.Found y ↦ y.generation | _ ↦ 0 ]) h) in
    subst (λ (g : ℕ). is_there F x.inode g ≡ true) generation
    (subst (λ (j : ℕ). is_there F j f.generation ≡ true) inode (there-file F i f is))

entry-there : (F : Files) (o : Option Entry) (x : Found) → reply.Found x ≡ found_entry F o
    → is_there F x.inode x.generation ≡ true
entry-there F None x h = absurd (cc h)
entry-there F (Some entry) x h = file-there F entry.inode x (F entry.inode) refl h

place-there : (F : Files) (d : ℕ) (o : Option ℕ) (x : Found) → reply.Found x ≡ found_reply F d o
    → is_there F x.inode x.generation ≡ true
place-there F d None x h = absurd (cc h)
place-there F d (Some e) x h = entry-there F (entry_at F d e) x h

pub look-there : (old new : List Made) (d g : ℕ) (name : List ℕ) (r : Reply) → IsAccepted old new (step.Look d g name) r
    → IfOk (found_by r) (λ f. (W : World) → AreAnswered W old new → is_there W.files f.inode f.generation ≡ true)
look-there old new d g name (reply.Found x) is = λ W a.
    let y = accepted-done W old new (step.Look d g name) (reply.Found x) is a in
    place-there W.files d (found W.files d name) x
    (subst (λ (F : Files). reply.Found x ≡ found_reply F d (found F d name)) y.files y.reply)
look-there old new d g name _ is = tt

-- what a step tells of the inode that it names
pub size-there : (old new : List Made) (i g : ℕ) (r : Reply) → IsAccepted old new (step.Stat i g) r
    → IfOk (size_by r) (λ size. (W : World) → AreAnswered W old new → is_there W.files i g ≡ true)
size-there old new i g (reply.Stat x) is = λ W a. stat-there W old new i g (reply.Stat x) is a
size-there old new i g _ is = tt

pub listed-there : (old new : List Made) (i g k : ℕ) (r : Reply) → IsAccepted old new (step.List i g k) r
    → IfOk (listed_by r) (λ listed. (W : World) → AreAnswered W old new → is_there W.files i g ≡ true)
listed-there old new i g k (reply.Names l names) is = λ W a. list-there W old new i g k (reply.Names l names) is a
listed-there old new i g k (reply.LostNames l) is = λ W a. list-there W old new i g k (reply.LostNames l) is a
listed-there old new i g k reply.NoMore is = λ W a. list-there W old new i g k reply.NoMore is a
listed-there old new i g k _ is = tt

-- a slot of a directory, and its names
pub listed-part : (k d g : ℕ) (r : Reply) → Fits (step.List d g k) r → IfOk (listed_by r) IsFolderPart
listed-part k d g (reply.Names l names) fits = record { below = fits.0; names = fits.1.1 }
listed-part k d g (reply.LostNames l) fits = record { below = fits; names = tt }
listed-part k d g reply.NoMore fits = record { below = tt; names = tt }
listed-part k d g _ fits = tt

-- What may be asked

pub ask-there : (F : Files) (folder : Bool) (at : InodeHandle)
    → is_there F at.inode at.generation ≡ true → is_folder_at F at.inode ≡ folder → MayAsk F folder at
ask-there F folder at there kind =
    record { lacking = λ lack. absurd (clash (is_there F at.inode at.generation) there lack); kind = λ _. kind }

pub ask-root : (F : Files) → HasRoots F → MayAsk F true root_handle
ask-root F h = record { lacking = λ lack. inl lack; kind = h.0 }

pub ask-label : (F : Files) → HasRoots F → MayAsk F false label_handle
ask-label F h = record { lacking = λ lack. inr lack; kind = h.1 }

pub leads-copied : (F : Files) (d : ℕ) (name copied : List ℕ) (folder : Bool) → copied ≡ name → LeadsTo F d name folder
    → LeadsTo F d copied folder
leads-copied F d name copied folder same leads = subst (λ (n : List ℕ). LeadsTo F d n folder) (sym same) leads

-- what a look found
pub ask-found : (F : Files) (d : ℕ) (name copied : List ℕ) (folder : Bool) (at : InodeHandle)
    → copied ≡ name → LeadsTo F d name folder
    → inode_found F d copied ≡ at.inode → is_there F at.inode at.generation ≡ true → MayAsk F folder at
ask-found F d name copied folder at same leads is there =
    ask-there F folder at there (ap (is_folder_at F) (sym is ∙ ap (inode_found F d) same) ∙ leads.kind)
