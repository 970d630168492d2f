-- What a seat knows, and how a step changes it.
use Rattle.std.specs.Prelude.{◌≡◌, ℕ, ◌+◌, ◌-◌, true, false, List, [], ◌++◌, length, drop, Some, None}
use Rattle.nofs_turn.specs.declared.rule.view.View.{View}
use Rattle.nofs_turn.specs.Lists.{merge, longer, numbered}

module _ {E F : Type 0} where
  -- a seat that was joined to another
  abbrev pub spent : View E F
  spent = record {
    fixed = None;
    start = 0;
    seats = 0;
    seen = [];
    heard = [];
    mine = [];
    has = false;
    splits = 0;
    stands = 0;
    looks = 0;
    last = 0;
    runs = 0;
  }

  -- a seat of a turn that was made over the list xs, with the part f
  abbrev pub fresh : F → List E → ℕ → View E F
  fresh f xs seats = record spent { fixed = Some f; start = length xs; seats = seats; seen = xs; stands = 1 }

  -- the maker's seat
  abbrev pub maker : F → List E → ℕ → View E F
  maker f xs seats = record (fresh f xs seats) { splits = seats - 1 }

  -- one look more, which found n
  abbrev pub looked : View E F → ℕ → View E F
  looked v n = record v { looks = v.looks + 1; last = n }

  -- the turn was free, and the list behind it was xs
  abbrev pub took : View E F → ℕ → List E → View E F
  took v n xs = record v { seen = xs; has = true; looks = v.looks + 1; last = n }

  -- a section was run, and the list that went home is ys
  abbrev pub gave : View E F → List E → View E F
  gave v ys = record v {
    seen = ys;
    has = false;
    mine = v.mine ++ numbered (length v.seen) (drop (length v.seen) ys);
    runs = v.runs + 1;
  }

  -- a seat was split from it
  abbrev pub dealt : View E F → View E F
  dealt v = record v { splits = v.splits - 1 }

  -- a seat split from v
  abbrev pub newcomer : View E F → View E F
  newcomer v = record v { mine = []; has = false; splits = 0; stands = 1; looks = 0; last = 0; runs = 0 }

  -- v has heard what w had seen, and stands for both
  abbrev pub united : View E F → View E F → View E F
  united v w = record v { heard = w.seen; mine = merge v.mine w.mine; stands = v.stands + w.stands }

  -- what was heard counts as seen
  abbrev pub settled : View E F → View E F
  settled v = record v { seen = longer v.seen v.heard; heard = [] }

  -- the two passes in one
  abbrev pub joined : View E F → View E F → View E F
  joined v w = record v { seen = longer v.seen w.seen; mine = merge v.mine w.mine; stands = v.stands + w.stands }

  -- the maker's seat, which has n still to split
  abbrev pub Deals : View E F → ℕ → ℕ → Type 0
  Deals v n seats = (v.splits ≡ n) × (v.stands ≡ 1) × (v.has ≡ false) × (v.mine ≡ []) × (v.looks ≡ 0) × (v.last ≡ 0)
      × (v.seats ≡ seats) × (v.heard ≡ []) × (v.runs ≡ 0)
