-- What a step gives to slots and metas rests on what is kept of files alone, and files that are alike stay so.
use Rattle.std.proofs.Common.{if◌then◌else◌, ◌≡◌, ℕ, ◌+◌, ◌*◌, ◌/◌, ◌<◌, max, Bool, true, false, ◌&&◌, not, cond, eqb}
use Rattle.std.proofs.Common.{ltb, List, [], length, Option, Some, None, unwrap_or, refl, sym, ap, ◌∙◌, arith, eqb-true}
use Rattle.std.specs.List.{list_any}
use Rattle.nofs_ptrs.specs.Paths.{slot_limit}
use Rattle.nofs_dirent.specs.Entries.{spelled_entry}
use Rattle.nofs_inode.specs.declared.inode.FileKind.{FileKind}
use Rattle.nofs_inode.specs.declared.inode.BackLink.{BackLink}
use Rattle.nofs_dirent.specs.declared.entry.Entry.{Entry}
use Rattle.nofs_model.specs.Files.{Absent, FileState, Files, entry_at, is_pair, is_special}
use Rattle.nofs_model.specs.declared.image.value.Value.{Value}
use Rattle.nofs_model.specs.declared.image.value.Value.TheVariants.{Hole, Bytes}
use Rattle.nofs_history.specs.Meta.{Meta, Gone, Is}
use Rattle.nofs_history.specs.Machine.{Given, nothing, is_at, value_of, size_of, link_to, found, place_for, link_place}
use Rattle.nofs_history.specs.Machine.{zero_bytes, put_content}
use Rattle.nofs_history.specs.Machine.{with_entry, cell_given, meta_given, no_meta, meta_with, put_given, resize_slot}
use Rattle.nofs_history.specs.Machine.{resize_given, entry_given}
use Rattle.nofs_history.specs.Machine.{make_given, link_given, drop_given, rename_given, set_link, without_link}
use Rattle.nofs_history.specs.Machine.{drop_meta, at_place, gives, filled}
use Rattle.nofs_history.specs.Machine.{after_meta, file_after, new_file, born_file, files_after}
use Rattle.nofs_history.specs.Accepted.Files.{kept_file, kept_files, resized_value}
use Rattle.nofs_history.specs.declared.machine.history.Claims.{Claims}
use Rattle.nofs_history.specs.declared.machine.steps.Step.{Step}
use Rattle.nofs_history.specs.declared.machine.steps.Step.TheVariants as step
use Rattle.nofs_history.proofs.OnAccepted.Keeping.{entry_at-kept, is_pair-kept, size-kept, value-kept, found-kept}
use Rattle.nofs_history.proofs.OnAccepted.Keeping.{place-kept, link_place-kept}

-- What is given alike, but for blocks of pointers and slots that no file can have

pub record SameGiven (a b : Given) : Type 0 where
  pub born : (i : ℕ) → a.born i ≡ b.born i
  pub slots : (i g k : ℕ) → k < slot_limit → a.slots i g k ≡ b.slots i g k
  pub metas : (i g : ℕ) → a.metas i g ≡ b.metas i g

pub same-given : (a : Given) → SameGiven a a
same-given a = record { born = λ i. refl; slots = λ i g k lt. refl; metas = λ i g. refl }

-- What becomes of files by what is given alike

-- a file after what is given to it, all but its blocks of pointers
abbrev pub ends : Option Meta → ℕ → FileKind → ℕ → List BackLink → (ℕ → Value) → Option FileState
ends None g kind size links values =
    Some (record { generation = g; kind = kind; size = size; links = links; values = values; nodes = λ path. Absent })
ends (Some Gone) g kind size links values = None
ends (Some (Is k s l)) g kind size links values =
    Some (record { generation = g; kind = k; size = s; links = l; values = values; nodes = λ path. Absent })

abbrev pub held : (ℕ → Value) → ℕ → Value
held values k = cond (ltb k slot_limit) (values k) Hole

pub ends-after : (a : Given) (i : ℕ) (m : Option Meta) (f : FileState) → kept_file (after_meta m (filled a i f))
    ≡ ends m f.generation f.kind f.size f.links (held (λ k. unwrap_or (a.slots i f.generation k) (f.values k)))
ends-after a i None f = refl
ends-after a i (Some Gone) f = refl
ends-after a i (Some (Is k s l)) f = refl

-- a value that is given, or stood
held-same : (a b : Given) → SameGiven a b
    → (i g : ℕ) (values : ℕ → Value) (k : ℕ) → held (λ l. unwrap_or (a.slots i g l) (values l)) k
    ≡ held (λ l. unwrap_or (b.slots i g l) (held values l)) k
held-same a b same i g values k = go (ltb k slot_limit) refl
  where
    go : (t : Bool) → ltb k slot_limit ≡ t → cond t (unwrap_or (a.slots i g k) (values k)) Hole
        ≡ cond t (unwrap_or (b.slots i g k) (cond (ltb k slot_limit) (values k) Hole)) Hole
    go true e = let lt : k < slot_limit = grind (arith, e) in
        rw e (ap (λ (o : Option Value). unwrap_or o (values k)) (same.slots i g k lt))
    go false e = refl

file-same : (a b : Given) → SameGiven a b
    → (i : ℕ) (o : Option FileState) → kept_file (file_after a i o) ≡ kept_file (file_after b i (kept_file o))
file-same a b same i None = refl
file-same a b same i (Some f) =
    ends-after a i (a.metas i f.generation) f
    ∙ (λ j. ends (same.metas i f.generation j) f.generation f.kind f.size f.links
    (λ k. held-same a b same i f.generation f.values k j))
    ∙ sym (ends-after b i (b.metas i f.generation) (record {
      generation = f.generation;
      kind = f.kind;
      size = f.size;
      links = f.links;
      values = held f.values;
      nodes = λ path. Absent;
    }))

born-same : (a b : Given) → SameGiven a b
    → (i : ℕ) (n : Option ℕ) (o : Option FileState) → kept_file (file_after a i (born_file n o))
    ≡ kept_file (file_after b i (born_file n (kept_file o)))
born-same a b same i None o = file-same a b same i o
born-same a b same i (Some g) o =
    file-same a b same i (Some (new_file g))
    ∙ ap (λ (values : ℕ → Value). kept_file (file_after b i (Some (record {
      generation = g;
      kind = (new_file g).kind;
      size = 0;
      links = [];
      values = values;
      nodes = λ path. Absent;
    })))) (λ j k. hole k (ltb k slot_limit) j)
  where
    hole : (k : ℕ) (t : Bool) → cond t Hole Hole ≡ Hole
    hole k true = refl
    hole k false = refl

-- files to which the same is given are alike
pub after-kept : (F : Files) (a b : Given) → SameGiven a b
    → kept_files (files_after F a) ≡ kept_files (files_after (kept_files F) b)
after-kept F a b same = λ j i. (born-same a b same i (a.born i) (F i)
    ∙ ap (λ (n : Option ℕ). kept_file (file_after b i (born_file n (kept_file (F i)))))
    (same.born i)) j

pub after-same : (F G : Files) → kept_files F ≡ kept_files G → (a b : Given) → SameGiven a b
    → kept_files (files_after F a) ≡ kept_files (files_after G b)
after-same F G alike a b same =
    after-kept F a b same
    ∙ ap (λ (H : Files). kept_files (files_after H b)) alike
    ∙ sym (after-kept G b b (same-given b))

-- What a step gives

-- a cell whose content rests on the value of its slot
cell-same : (F : Files) (i g k : ℕ) (content : Value → Value) (m n : ℕ → ℕ → Option Meta) → ((j h : ℕ) → m j h ≡ n j h)
    → SameGiven (cell_given i g k (content (value_of F i k)) m)
    (cell_given i g k (content (value_of (kept_files F) i k)) n)
cell-same F i g k content m n metas = record { born = λ j. refl; slots = slots; metas = metas }
  where
    slots : (j h l : ℕ) → l < slot_limit → cond (is_at i g j h && eqb k l) (Some (content (value_of F i k))) None
        ≡ cond (is_at i g j h && eqb k l) (Some (content (value_of (kept_files F) i k))) None
    slots j h l lt = go (is_at i g j h) (eqb k l) refl
      where
        go : (a b : Bool) → eqb k l ≡ b → cond (a && b) (Some (content (value_of F i k))) None
            ≡ cond (a && b) (Some (content (value_of (kept_files F) i k))) None
        go false b e = refl
        go true false e = refl
        go true true e = let same = eqb-true k l e in
            ap (λ (v : Value). Some (content v)) (sym (value-kept F i k (omega (arith, same, lt))))

-- a meta that rests on a file without its slots
meta-same : (F : Files) (i : ℕ) (change : FileKind → ℕ → List BackLink → Meta)
    → meta_with F i (λ f. change f.kind f.size f.links)
    ≡ meta_with (kept_files F) i (λ f. change f.kind f.size f.links)
meta-same F i change = go (F i)
  where
    word : Option FileState → Meta
    word o = elim o [ None ↦ Gone | Some f ↦ change f.kind f.size f.links ]

    go : (o : Option FileState) → word o ≡ word (kept_file o)
    go None = refl
    go (Some f) = refl

given-same : (i g : ℕ) (m n : Meta) → m ≡ n → (j h : ℕ) → meta_given i g m j h ≡ meta_given i g n j h
given-same i g m n e j h = ap (λ (x : Meta). meta_given i g x j h) e

put-same : (F : Files) (i g k at : ℕ) (bytes : List ℕ)
    → SameGiven (put_given F i g k at bytes) (put_given (kept_files F) i g k at bytes)
put-same F i g k at bytes =
    let one = cell-same F i g k (λ v. Bytes (put_content v (size_of F i) k at bytes))
    (meta_given i g (meta_with F i (λ f. Is f.kind (max f.size (1024 * k + at + length bytes)) f.links)))
    (meta_given i g (meta_with (kept_files F) i (λ f. Is f.kind (max f.size (1024 * k + at + length bytes)) f.links)))
    (given-same i g (meta_with F i (λ f. Is f.kind (max f.size (1024 * k + at + length bytes)) f.links))
    (meta_with (kept_files F) i (λ f. Is f.kind (max f.size (1024 * k + at + length bytes)) f.links))
    (meta-same F i (λ kind size links. Is kind (max size (1024 * k + at + length bytes)) links))) in
    let size = size-kept F i in
    record {
      born = one.born;
      slots = λ j h l lt. one.slots j h l lt ∙ ap (λ (s : ℕ). cond (is_at i g j h && eqb k l)
          (Some (Bytes (put_content (value_of (kept_files F) i k) s k at bytes))) None) (sym size);
      metas = one.metas;
    }

resize-same : (F : Files) (i g size : ℕ) → SameGiven (resize_given F i g size) (resize_given (kept_files F) i g size)
resize-same F i g size = record {
  born = λ j. refl;
  slots = λ j h k lt.
      let at : Option Value → Option Value = λ o. cond (is_at i g j h) o None in
      let s = sym (size-kept F i) in
      let v = sym (value-kept F i k lt) in
      let one : resize_slot F i size k ≡ resize_slot (kept_files F) i size k =
      (λ t. resized_value (s t) size (v t) k) in
      ap at one;
  metas = given-same i g (meta_with F i (λ f. Is f.kind size f.links))
      (meta_with (kept_files F) i (λ f. Is f.kind size f.links))
      (meta-same F i (λ kind s links. Is kind size links));
}

entry-same : (F : Files) (d g e : ℕ) (bytes : List ℕ) (m n : ℕ → ℕ → Option Meta) → ((j h : ℕ) → m j h ≡ n j h)
    → SameGiven (entry_given F d g e bytes m) (entry_given (kept_files F) d g e bytes n)
entry-same F d g e bytes m n metas = cell-same F d g (e / 16) (λ v. with_entry v e bytes) m n metas

make-same : (F : Files) (d g : ℕ) (name : List ℕ) (kind : FileKind) (claims : Claims) (e : ℕ)
    → SameGiven (make_given F d g name kind claims e) (make_given (kept_files F) d g name kind claims e)
make-same F d g name kind claims e =
    let one = entry-same F d g e (spelled_entry claims.inode claims.generation name) no_meta no_meta (λ j h. refl) in
    record {
      born = λ j. refl;
      slots = λ j h k lt. ap (λ (o : Option Value). cond (is_at claims.inode claims.generation j h) (Some Hole) o)
          (one.slots j h k lt);
      metas = λ j h. refl;
    }

link-same : (F : Files) (d g : ℕ) (name : List ℕ) (i of e b : ℕ)
    → SameGiven (link_given F d g name i of e b) (link_given (kept_files F) d g name i of e b)
link-same F d g name i of e b = entry-same F d g e (spelled_entry i of name)
    (meta_given i of (meta_with F i (λ f. Is f.kind f.size (set_link f.links b (link_to d e g)))))
    (meta_given i of (meta_with (kept_files F) i (λ f. Is f.kind f.size (set_link f.links b (link_to d e g)))))
    (given-same i of (meta_with F i (λ f. Is f.kind f.size (set_link f.links b (link_to d e g))))
    (meta_with (kept_files F) i (λ f. Is f.kind f.size (set_link f.links b (link_to d e g))))
    (meta-same F i (λ kind size links. Is kind size (set_link links b (link_to d e g)))))

-- what is left without a link, by which links are pairs
abbrev dropped : (ℕ → BackLink → Bool) → ℕ → BackLink → FileKind → ℕ → List BackLink → Meta
dropped pair i link kind size links =
    if not (is_special i) && not (list_any (λ l. pair i l) (without_link link links)) then Gone
    else Is kind size (without_link link links)

drop_meta-same : (F : Files) (i : ℕ) (link : BackLink) → drop_meta F i link ≡ drop_meta (kept_files F) i link
drop_meta-same F i link =
    (let pair : (n : ℕ) (l : BackLink) → is_pair F n l ≡ is_pair (kept_files F) n l = λ n l. sym (is_pair-kept F n l) in
    λ j. meta_with F i (λ f. dropped (λ n l. pair n l j) i link f.kind f.size f.links))
    ∙ meta-same F i (λ kind size links. dropped (is_pair (kept_files F)) i link kind size links)

drop-same : (F : Files) (d g e : ℕ) → SameGiven (drop_given F d g e) (drop_given (kept_files F) d g e)
drop-same F d g e = go (entry_at F d e) (entry_at (kept_files F) d e) refl refl (entry_at-kept F d e)
  where
    go : (o p : Option Entry) → entry_at F d e ≡ o → entry_at (kept_files F) d e ≡ p → p ≡ o
        → SameGiven (drop_given F d g e) (drop_given (kept_files F) d g e)
    go None None eo ep same = rw (eo, ep, drop_given) (same-given nothing)
    go None (Some q) eo ep same = absurd (cc same)
    go (Some q) None eo ep same = absurd (cc same)
    go (Some entry) (Some q) eo ep same =
        let ep' : entry_at (kept_files F) d e ≡ Some entry = ep ∙ same in
        rw (eo, ep', drop_given) (entry-same F d g e (zero_bytes 64)
        (meta_given entry.inode entry.generation (drop_meta F entry.inode (link_to d e g)))
        (meta_given entry.inode entry.generation (drop_meta (kept_files F) entry.inode (link_to d e g)))
        (given-same entry.inode entry.generation (drop_meta F entry.inode (link_to d e g))
        (drop_meta (kept_files F) entry.inode (link_to d e g))
        (drop_meta-same F entry.inode (link_to d e g))))

rename-same : (F : Files) (d g : ℕ) (name : List ℕ) (e : ℕ)
    → SameGiven (rename_given F d g name e) (rename_given (kept_files F) d g name e)
rename-same F d g name e = go (entry_at F d e) (entry_at (kept_files F) d e) refl refl (entry_at-kept F d e)
  where
    go : (o p : Option Entry) → entry_at F d e ≡ o → entry_at (kept_files F) d e ≡ p → p ≡ o
        → SameGiven (rename_given F d g name e) (rename_given (kept_files F) d g name e)
    go None None eo ep same = rw (eo, ep, rename_given) (same-given nothing)
    go None (Some q) eo ep same = absurd (cc same)
    go (Some q) None eo ep same = absurd (cc same)
    go (Some entry) (Some q) eo ep same =
        let ep' : entry_at (kept_files F) d e ≡ Some entry = ep ∙ same in
        rw (eo, ep', rename_given)
        (entry-same F d g e (spelled_entry entry.inode entry.generation name) no_meta no_meta (λ j h. refl))

-- the place is the same
place-same : (o p : Option ℕ) (f h : ℕ → Given) → o ≡ p → ((e : ℕ) → SameGiven (f e) (h e))
    → SameGiven (at_place o f) (at_place p h)
place-same None None f h same each = same-given nothing
place-same None (Some q) f h same each = absurd (cc same)
place-same (Some q) None f h same each = absurd (cc same)
place-same (Some e) (Some q) f h same each = let s : e ≡ q = cc same in rw (sym s) (each e)

pub gives-same : (F : Files) (step : Step) (claims : Claims)
    → SameGiven (gives F step claims) (gives (kept_files F) step claims)
unfolding gives
gives-same F (step.Put i g k at bytes) claims = put-same F i g k at bytes
gives-same F (step.Resize i g size) claims = resize-same F i g size
gives-same F (step.Make d g name kind) claims = place-same (place_for F d name) (place_for (kept_files F) d name)
    (λ e. make_given F d g name kind claims e) (λ e. make_given (kept_files F) d g name kind claims e)
    (sym (place-kept F d name))
    (λ e. make-same F d g name kind claims e)
gives-same F (step.Link d g name i of) claims =
    place-same (place_for F d name) (place_for (kept_files F) d name)
    (λ e. at_place (link_place F i) (λ b. link_given F d g name i of e b))
    (λ e. at_place (link_place (kept_files F) i) (λ b. link_given (kept_files F) d g name i of e b))
    (sym (place-kept F d name))
    (λ e. place-same (link_place F i) (link_place (kept_files F) i) (λ b. link_given F d g name i of e b)
    (λ b. link_given (kept_files F) d g name i of e b) (sym (link_place-kept F i)) (λ b. link-same F d g name i of e b))
gives-same F (step.Drop d g name) claims =
    place-same (found F d name) (found (kept_files F) d name) (λ e. drop_given F d g e)
    (λ e. drop_given (kept_files F) d g e) (sym (found-kept F d name)) (λ e. drop-same F d g e)
gives-same F (step.Rename d g old new) claims =
    place-same (found F d old) (found (kept_files F) d old) (λ e. rename_given F d g new e)
    (λ e. rename_given (kept_files F) d g new e) (sym (found-kept F d old)) (λ e. rename-same F d g new e)
gives-same F _ claims = same-given nothing
