-- What no step changes of a pass.
use Rattle.std.proofs.Common.{◌≡◌, refl, ◌∙◌}
use mathlib.Core.List.{IsPrefix}
use Rattle.nofs_turn.specs.declared.rule.view.View.{View}
use Rattle.nofs_turn.proofs.OnLists.Words.{prefix_self, prefix_trans}

pub record SameSeat {E F : Type 0} (v w : View E F) : Type 0 where
  pub fixed : w.fixed ≡ v.fixed
  pub start : w.start ≡ v.start
  pub seats : w.seats ≡ v.seats
  pub stands : w.stands ≡ v.stands
  pub seen : IsPrefix v.seen w.seen

pub same_seat : {E F : Type 0} (v : View E F) → SameSeat v v
same_seat v = record { fixed = refl; start = refl; seats = refl; stands = refl; seen = prefix_self v.seen }

pub same_seats : {E F : Type 0} (u v w : View E F) → SameSeat u v → SameSeat v w → SameSeat u w
same_seats u v w p q = record {
  fixed = q.fixed ∙ p.fixed;
  start = q.start ∙ p.start;
  seats = q.seats ∙ p.seats;
  stands = q.stands ∙ p.stands;
  seen = prefix_trans u.seen v.seen w.seen p.seen q.seen;
}
