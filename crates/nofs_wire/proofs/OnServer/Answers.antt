-- What an answer to one frame comes to.
use Rattle.std.proofs.Common.{◌≡◌, ℕ, suc, ◌*◌, ◌<◌, ◌≤◌, ◌^◌, List, [], ◌∷◌, ◌++◌, length, flat_map, append-nil}
use Rattle.std.proofs.Common.{length-append, All, true, false}
use Rattle.std.proofs.Common.{Option, Some, if◌then◌else◌, refl, sym, ap, ◌∙◌, arith}
use Rattle.std.specs.Prelude.{IsTrue, option_to_list, slice_index_or}
use Rattle.nofs_dirent.specs.Names.{is_name}
use Rattle.nofs_dirent.specs.NameLaws.{is_name-Decides}
use Rattle.nofs_history.specs.Steps.{Made, Fits, with_made, is_out_of_memory}
use Rattle.nofs_history.specs.declared.machine.steps.Step.{Step}
use Rattle.nofs_history.specs.declared.machine.steps.Step.TheVariants as step
use Rattle.nofs_history.specs.declared.machine.replies.NameLine.{NameLine}
use Rattle.nofs_history.specs.declared.machine.replies.Reply.{Reply}
use Rattle.nofs_history.specs.declared.machine.replies.Reply.TheVariants as reply
use Rattle.nofs_history.specs.declared.machine.replies.Refusal.{Refusal}
use Rattle.nofs_history.specs.declared.machine.replies.Refusal.TheVariants as refusal
use Rattle.nofs_wire.specs.Frames.Replies.{HasSpelling, FitsOneByte, line_bytes, body_bytes, field_bytes, kept_bytes}
use Rattle.nofs_wire.specs.Frames.Replies.{reply_bytes}
use Rattle.nofs_wire.specs.Frames.Fields.{kind_byte, truth_byte, number_bytes}
use Rattle.nofs_wire.specs.Server.Turns.{AnswersInPart, AnswersWhole}
use Rattle.nofs_wire.proofs.OnFrames.Fields.{length-number_bytes}

-- what a mount replies can be spelled in a frame
pub record IsSpelled (r : Reply) : Type 0 where
  pub lists : HasSpelling r
  pub short : length (body_bytes r) < 2 ^ 32

short-name : (lines : List NameLine) → All (λ line. IsTrue (is_name line.name)) lines → All FitsOneByte lines
short-name lines names k d low = let ok = (is_name-Decides (slice_index_or lines k d).name).0 (names k d low) in
    let short = ok.short in omega arith

-- the lines of a slot take at most 258 bytes each
length-lines : (lines : List NameLine) → All FitsOneByte lines → length (flat_map line_bytes lines) ≤ 258 * length lines
unfolding line_bytes
length-lines [] short = omega arith
length-lines (line ∷ lines) short =
    let here : length line.name < 256 = short 0 line (omega arith) in
    let rest = length-lines lines (λ k d low. short (suc k) d (omega arith)) in
    omega (
      arith,
      length-append (kind_byte line.kind ∷ (truth_byte line.dead ∷ (length line.name ∷ line.name)))
          (flat_map line_bytes lines),
    )

names-spelled : (slot : ℕ) (lines : List NameLine) → length lines ≤ 16 → All (λ line. IsTrue (is_name line.name)) lines
    → IsSpelled (reply.Names slot lines)
unfolding field_bytes
names-spelled slot lines few names =
    let short = short-name lines names in
    let long = length-lines lines short in
    record {
      lists = (omega arith, short);
      short = omega (
        arith,
        length-append (number_bytes 8 slot) (length lines ∷ flat_map line_bytes lines),
        length-number_bytes 8 slot,
      );
    }

content-spelled : (bytes : List ℕ) → length bytes ≡ 1024 → IsSpelled (reply.Bytes bytes)
unfolding field_bytes
content-spelled bytes long = record { lists = tt; short = omega arith }

kept-short : (r : Refusal) → length (kept_bytes r) ≤ 32
kept-short (refusal.LostEntry entry) = omega (arith, length-number_bytes 4 entry)
kept-short (refusal.LostSlot slot) = omega (arith, length-number_bytes 8 slot)
kept-short (refusal.Full a b c d) =
    omega (
      arith,
      length-append (number_bytes 8 a) (number_bytes 8 b ++ (number_bytes 8 c ++ number_bytes 8 d)),
      length-append (number_bytes 8 b) (number_bytes 8 c ++ number_bytes 8 d),
      length-append (number_bytes 8 c) (number_bytes 8 d),
      length-number_bytes 8 a,
      length-number_bytes 8 b,
      length-number_bytes 8 c,
      length-number_bytes 8 d,
    )
kept-short (refusal.InodesFull a b) =
    omega (arith, length-append (number_bytes 8 a) (number_bytes 8 b), length-number_bytes 8 a, length-number_bytes 8 b)
kept-short refusal.Missing = omega arith
kept-short refusal.Exists = omega arith
kept-short refusal.NotDirectory = omega arith
kept-short refusal.IsDirectory = omega arith
kept-short refusal.NotEmpty = omega arith
kept-short refusal.BadName = omega arith
kept-short refusal.BadRange = omega arith
kept-short refusal.TooManyLinks = omega arith
kept-short refusal.DirectoryFull = omega arith
kept-short refusal.TooLarge = omega arith
kept-short refusal.PastEnd = omega arith
kept-short refusal.Stale = omega arith
kept-short refusal.SerialsSpent = omega arith
kept-short refusal.ReadFault = omega arith
kept-short refusal.WriteFault = omega arith
kept-short refusal.Stopped = omega arith
kept-short refusal.OutOfMemory = omega arith

-- of the steps, a list alone is answered names, and a get alone bytes
names-fit : (s : Step) (slot : ℕ) (lines : List NameLine) → Fits s (reply.Names slot lines)
    → (length lines ≤ 16) × All (λ line. IsTrue (is_name line.name)) lines
names-fit (step.List d g k) slot lines fits = fits.1
names-fit (step.Look d g n) slot lines fits = absurd fits
names-fit (step.Make d g n k) slot lines fits = absurd fits
names-fit (step.Link d g n i o) slot lines fits = absurd fits
names-fit (step.Drop d g n) slot lines fits = absurd fits
names-fit (step.Rename d g o n) slot lines fits = absurd fits
names-fit (step.Get i g k) slot lines fits = absurd fits
names-fit (step.Put i g k a b) slot lines fits = absurd fits
names-fit (step.Resize i g z) slot lines fits = absurd fits
names-fit (step.Stat i g) slot lines fits = absurd fits
names-fit (step.Flush i g) slot lines fits = absurd fits
names-fit (step.SeeInode i) slot lines fits = absurd fits
names-fit (step.SeeBlock p) slot lines fits = absurd fits

bytes-fit : (s : Step) (bytes : List ℕ) → Fits s (reply.Bytes bytes) → length bytes ≡ 1024
bytes-fit (step.Get i g k) bytes fits = fits
bytes-fit (step.List d g k) bytes fits = absurd fits
bytes-fit (step.Look d g n) bytes fits = absurd fits
bytes-fit (step.Make d g n k) bytes fits = absurd fits
bytes-fit (step.Link d g n i o) bytes fits = absurd fits
bytes-fit (step.Drop d g n) bytes fits = absurd fits
bytes-fit (step.Rename d g o n) bytes fits = absurd fits
bytes-fit (step.Put i g k a b) bytes fits = absurd fits
bytes-fit (step.Resize i g z) bytes fits = absurd fits
bytes-fit (step.Stat i g) bytes fits = absurd fits
bytes-fit (step.Flush i g) bytes fits = absurd fits
bytes-fit (step.SeeInode i) bytes fits = absurd fits
bytes-fit (step.SeeBlock p) bytes fits = absurd fits

pub fits-spelled : (s : Step) (r : Reply) → Fits s r → IsSpelled r
unfolding field_bytes
fits-spelled s (reply.Names slot lines) fits = let f = names-fit s slot lines fits in names-spelled slot lines f.0 f.1
fits-spelled s (reply.Bytes bytes) fits = content-spelled bytes (bytes-fit s bytes fits)
fits-spelled s (reply.Refused r) fits = record { lists = tt; short = omega (arith, kept-short r) }
fits-spelled s (reply.Found f) fits = record {
  lists = tt;
  short = omega (
    arith,
    length-append (number_bytes 4 f.inode) (number_bytes 8 f.generation ++ kind_byte f.kind ∷ []),
    length-append (number_bytes 8 f.generation) (kind_byte f.kind ∷ []),
    length-number_bytes 4 f.inode,
    length-number_bytes 8 f.generation,
  );
}
fits-spelled s (reply.Made i g) fits = record {
  lists = tt;
  short = omega
      (arith, length-append (number_bytes 4 i) (number_bytes 8 g), length-number_bytes 4 i, length-number_bytes 8 g);
}
fits-spelled s (reply.LostNames slot) fits = record { lists = tt; short = omega (arith, length-number_bytes 8 slot) }
fits-spelled s (reply.Stat t) fits = record {
  lists = tt;
  short = omega (
    arith,
    length-append (number_bytes 8 t.size) (number_bytes 4 t.links),
    length-number_bytes 8 t.size,
    length-number_bytes 4 t.links,
  );
}
fits-spelled s reply.Linked fits = record { lists = tt; short = omega arith }
fits-spelled s (reply.Dropped b) fits = record { lists = tt; short = omega arith }
fits-spelled s reply.Renamed fits = record { lists = tt; short = omega arith }
fits-spelled s reply.NoMore fits = record { lists = tt; short = omega arith }
fits-spelled s reply.Hole fits = record { lists = tt; short = omega arith }
fits-spelled s reply.Lost fits = record { lists = tt; short = omega arith }
fits-spelled s reply.Stored fits = record { lists = tt; short = omega arith }
fits-spelled s reply.Resized fits = record { lists = tt; short = omega arith }
fits-spelled s reply.Flushed fits = record { lists = tt; short = omega arith }
fits-spelled s (reply.Seen b) fits = record { lists = tt; short = omega arith }

-- nothing was made
pub answers-nothing : (o : Option Step) (made new : List Made) → new ≡ made → AnswersInPart o made new
answers-nothing o made new same = record {
  steps = [];
  left = option_to_list o;
  makes = same ∙ sym (append-nil made);
  first = refl;
}

-- a step that was made
pub made-one : (s : Step) (r : Reply) (made new : List Made) → is_out_of_memory r ≡ false
    → new ≡ with_made made s r → new ≡ made ++ (s, r) ∷ []
made-one s r made new room more = more ∙ ap (λ b. if b then made else made ++ (s, r) ∷ []) room

-- its reply is there
pub answers-whole : (s : Step) (r : Reply) (made new : List Made) (frame : List ℕ)
    → new ≡ made ++ (s, r) ∷ [] → frame ≡ reply_bytes r → AnswersWhole (Some s) made new frame
answers-whole s r made new frame more is = record { one = (s, r); is = refl; makes = more; reply = is }

-- its reply found no memory
pub answers-made : (o : Option Step) (m : Made) (made new : List Made) → o ≡ Some m.0 → new ≡ made ++ m ∷ []
    → AnswersInPart o made new
answers-made o m made new is more =
    record { steps = m ∷ []; left = []; makes = more; first = ap option_to_list is }

-- a step that found no memory isn't made
pub answers-unmade : (s : Step) (r : Reply) (made new : List Made) → is_out_of_memory r ≡ true
    → new ≡ with_made made s r → AnswersInPart (Some s) made new
answers-unmade s r made new none more =
    answers-nothing (Some s) made new (more ∙ ap (λ b. if b then made else made ++ (s, r) ∷ []) none)
