-- An element that was not examined is learned from the disk, or could not be read.
use Rattle.std.proofs.Common.{◌≡◌, Bool, Option, None, Result, Ok, Err, IfOk, IsErr, refl, subst}
use Rattle.nofs_disk.specs.Disk.{DiskState}
use Rattle.nofs_disk.specs.declared.Failed.{Failed}
use Rattle.nofs_model.specs.Geometry.{Image}
use Rattle.nofs_state.specs.Books.Verdicts.{Judges, Learned, Unread, Verifies}
use Rattle.nofs_state.specs.declared.books.maps.Books.{Books}

-- what holds of an answer that came
pub of-ok : (F : Bool → Type 0) {r : Result Bool Failed} {used : Bool} → r ≡ Ok used → IfOk r F → F used
of-ok F is holds = subst (λ (q : Result Bool Failed). IfOk q F) is holds

module _ {old new : DiskState} {k l : Books} {stood : Option Bool} {learned : Bool → Books} {answer : Image → Bool}
    {Fits : Bool → Type 0}
    {r : Result Bool Failed} (judged : Judges old new k.agreement answer r) where
  pub examined : {used : Bool} → stood ≡ None → r ≡ Ok used → Fits used → l ≡ learned used
      → Verifies old k new l stood learned answer Fits (Ok used)
  examined {used} none is fits learns =
      Learned used none (subst (Judges old new k.agreement answer) is judged) fits learns refl

  pub unread : {x : Failed} (result : Result Bool Failed) → r ≡ Err x → IsErr result
      → l ≡ k → Verifies old k new l stood learned answer Fits result
  unread (Ok used) is failed same = absurd (cc failed)
  unread (Err y) is failed same = Unread y (subst (Judges old new k.agreement answer) is judged) same refl
