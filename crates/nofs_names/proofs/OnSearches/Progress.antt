-- How a search of a directory goes on, place by place and slot by slot.
use Rattle.std.proofs.Common.{◌≡◌, ℕ, ◌+◌, ◌*◌, ◌/◌, ◌%◌, ◌<◌, ◌≤◌, Bool, true, false, cond, ltb, ◌&&◌, not, List}
use Rattle.std.proofs.Common.{Option, Some, None, is_some, IsTrue, refl, sym, ap, ◌∙◌, subst, arith, lt-ltb}
use Rattle.std.specs.Prelude.{bytes_eq}
use Rattle.std.proofs.lemmas.Slice.Eq.{bytes_eq-Decides}
use Rattle.nofs_dirent.specs.Entries.{entry_limit, entry_in}
use Rattle.nofs_inode.specs.declared.inode.FileKind.TheVariants.{Directory as Folder}
use Rattle.nofs_dirent.specs.Entries as cells
use Rattle.nofs_dirent.specs.declared.entry.Entry.{Entry}
use Rattle.nofs_inode.specs.declared.inode.Record.{Record}
use Rattle.nofs_model.specs.Geometry.{Image, inode}
use Rattle.nofs_model.specs.Files.{files_in, agreed, FileState, Files, is_folder, entry_at, entry_held, entry_in_file}
use Rattle.nofs_model.specs.Slots.{value}
use Rattle.nofs_model.specs.declared.image.value.Value.{Value}
use Rattle.nofs_model.specs.declared.image.value.Value.TheVariants.{Hole, Bytes, Lost}
use Rattle.nofs_history.specs.Meta.{is_bytes}
use Rattle.nofs_history.specs.Search.{least_from}
use Rattle.nofs_history.specs.Machine as machine
use Rattle.nofs_history.specs.Machine.{link_to}
use Rattle.nofs_history.specs.History.{FilesMatch}
use Rattle.nofs_crashlaw.proofs.OnUntouched.Matches.{matched-agreed}
use Rattle.nofs_state.proofs.OnBooks.Machine.{agreed-live}
use Rattle.nofs_names.specs.Searches.Slots.{first_or, other_seen, where_true, named_in, paired_kind, IsNamed, finds}
use Rattle.nofs_names.specs.Searches.Slots.{is_dead, is_empty, is_lost_slot, is_hole_slot, Passed, IsFoundEntry}
use Rattle.nofs_names.specs.declared.searches.entries.Named.{Named}
use Rattle.nofs_names.specs.declared.searches.slots.Paired.{Paired}
use Rattle.nofs_names.specs.declared.searches.slots.Unfound.{Unfound}
use Rattle.nofs_names.proofs.OnEntries.Least.{least-next, least-skip, least-found, or-none}
use Rattle.nofs_names.proofs.OnSearches.PairTests.{dir-folder, named_by, paired-is, paired-agreed}

abbrev name_test : List ℕ → Option Entry → Bool
name_test name o = elim o [ None ↦ false | Some entry ↦ bytes_eq entry.name name ]

same-name : (name : List ℕ) (o : Option Entry) → name_test name o ≡ cells.is_named name (cells.name_of o)
same-name name None = refl
same-name name (Some it) = refl

cell-name : (payload name : List ℕ) (place : ℕ)
    → cells.has_name payload name place ≡ cells.is_named name (cells.name_of (entry_in payload place))
unfolding cells.has_name
cell-name payload name place = refl

abbrev value_in_file : ℕ → Option FileState → Value
value_in_file k o = elim o [ None ↦ Hole | Some f ↦ f.values k ]

-- one more entry was tested, which is no pair
one-as : (F : Files) (d : ℕ) (name : List ℕ) (w : Bool) (n k : ℕ) (v : Unfound) (dead : Bool) (empty : Option ℕ)
    → Passed F d name w n k v → finds F d name n ≡ false → is_dead F d name n ≡ dead
    → (IsTrue w → first_or v.empty (where_true (is_empty F d n) n) ≡ empty)
    → Passed F d name w (n + 1) k (record v { dead = first_or v.dead (where_true dead n); empty = empty })
one-as F d name w n k v dead empty p nope ed ee = record {
  none = least-next (finds F d name) n ∙ (λ j. first_or (p.none j) (where_true (nope j) n));
  dead = least-next (is_dead F d name) n ∙ (λ j. first_or (p.dead j) (where_true (ed j) n));
  empty = λ t. least-next (is_empty F d) n
      ∙ ap (λ (o : Option ℕ). first_or o (where_true (is_empty F d n) n)) (p.empty t) ∙ ee t;
  lost = p.lost;
  hole = p.hole;
}

-- one more slot was tested
slot-as : (F : Files) (d : ℕ) (name : List ℕ) (w : Bool) (n k : ℕ) (v : Unfound) (lost hole : Bool)
    → Passed F d name w n k v
    → is_lost_slot F d k ≡ lost
    → is_hole_slot F d k ≡ hole
    → Passed F d name w n (k + 1)
    (record v { lost = first_or v.lost (where_true lost k); hole = first_or v.hole (where_true hole k) })
slot-as F d name w n k v lost hole p el eh = record {
  none = p.none;
  dead = p.dead;
  empty = p.empty;
  lost = least-next (is_lost_slot F d) k ∙ (λ j. first_or (p.lost j) (where_true (el j) k));
  hole = least-next (is_hole_slot F d) k ∙ (λ j. first_or (p.hole j) (where_true (eh j) k));
}

-- the entries of a slot without bytes
skipped : (F : Files) (d : ℕ) (name : List ℕ) (w : Bool) (k : ℕ) (v : Unfound)
    → ((e : ℕ) → e / 16 ≡ k → entry_at F d e ≡ None) → is_bytes (machine.value_of F d k) ≡ false
    → Passed F d name w (16 * k) k v → Passed F d name w (16 * (k + 1)) k v
skipped F d name w k v none no_bytes p =
    let size : 16 * (k + 1) ≡ 16 * k + 16 = omega arith in
    let quiet : (e : ℕ) → 16 * k ≤ e → e < 16 * k + 16 → machine.entry_has_name F d name e ≡ false =
    λ e low high. ap (name_test name) (none e (omega (arith, low, high))) in
    let vacant : (e : ℕ) → 16 * k ≤ e → e < 16 * k + 16 → is_empty F d e ≡ false = λ e low high. let q : e / 16 ≡ k =
    omega (arith, low, high) in (λ j. is_bytes (machine.value_of F d (q j)) && not (is_some (entry_at F d e)))
    ∙ (λ j. no_bytes j && not (is_some (entry_at F d e))) in
    record {
      none = (λ j. least_from (finds F d name) 0 (size j)) ∙ least-skip (finds F d name) (16 * k) 16
          (λ e low high. (λ j. quiet e low high j && machine.is_paired F d e)) ∙ p.none;
      dead = (λ j. least_from (is_dead F d name) 0 (size j))
          ∙ least-skip (is_dead F d name) (16 * k) 16
          (λ e low high. (λ j. quiet e low high j && not (machine.is_paired F d e))) ∙ p.dead;
      empty = λ t. (λ j. least_from (is_empty F d) 0 (size j)) ∙ least-skip (is_empty F d) (16 * k) 16 vacant
          ∙ p.empty t;
      lost = p.lost;
      hole = p.hole;
    }

module _ (F : Files) (X : Image) (d : ℕ) (dr : Record) (match : FilesMatch F X) (a : agreed (files_in X) d ≡ true)
    (same : inode X d ≡ dr)
    (folder : dr.kind ≡ Some Folder) where
  -- the value of a slot
  pub value-at : (k : ℕ) (v : Value) → k < 72 → value X d k ≡ v → machine.value_of F d k ≡ v
  value-at k v low e =
      let m = matched-agreed F X d match (agreed-live X d a) a in
      ap (value_in_file k) m.is ∙ m.values k (omega (arith, low)) ∙ e

  pub held-at : (e k : ℕ) (v : Value) → k < 72 → e / 16 ≡ k → value X d k ≡ v → entry_at F d e ≡ entry_held v e
  held-at e k v low at ev =
      let m = matched-agreed F X d match (agreed-live X d a) a in
      let range : e < entry_limit = omega (arith, low, at) in
      let t : (is_folder m.file.kind && ltb e entry_limit) ≡ true =
      (λ j. dir-folder F X d e dr match a same folder j && lt-ltb e entry_limit range j) in
      let w : m.file.values (e / 16) ≡ v = ap m.file.values at ∙ m.values k (omega (arith, low)) ∙ ev in
      ap (λ (o : Option FileState). entry_in_file o e) m.is ∙ (λ j. cond (t j) (entry_held (w j) e) None)

  pub ends-bytes : (n k : ℕ) (payload name : List ℕ) (w : Bool) (v : Unfound) → k < 72 → value X d k ≡ Bytes payload
      → Passed F d name w n k v → Passed F d name w n (k + 1) v
  ends-bytes n k payload name w v low b p =
      let e = value-at k (Bytes payload) low b in
      subst (λ (u : Unfound). Passed F d name w n (k + 1) u)
      (λ j. record v { lost = or-none v.lost j; hole = or-none v.hole j })
      (slot-as F d name w n k v false false p (ap machine.is_lost e) (ap machine.is_hole e))

  pub ends-hole : (k : ℕ) (name : List ℕ) (w : Bool) (v : Unfound) → k < 72 → value X d k ≡ Hole
      → Passed F d name w (16 * k) k v
      → Passed F d name w (16 * (k + 1)) (k + 1) (record v { hole = first_or v.hole (Some k) })
  ends-hole k name w v low b p =
      let e = value-at k Hole low b in
      subst (λ (o : Option ℕ). Passed F d name w (16 * (k + 1)) (k + 1)
      (record v { lost = o; hole = first_or v.hole (Some k) })) (or-none v.lost)
      (slot-as F d name w (16 * (k + 1)) k v false true
      (skipped F d name w k v (λ n at. held-at n k Hole low at b) (ap is_bytes e) p) (ap machine.is_lost e)
      (ap machine.is_hole e))

  pub ends-lost : (k : ℕ) (name : List ℕ) (w : Bool) (v : Unfound) → k < 72 → value X d k ≡ Lost
      → Passed F d name w (16 * k) k v
      → Passed F d name w (16 * (k + 1)) (k + 1) (record v { lost = first_or v.lost (Some k) })
  ends-lost k name w v low b p =
      let e = value-at k Lost low b in
      subst (λ (o : Option ℕ). Passed F d name w (16 * (k + 1)) (k + 1)
      (record v { lost = first_or v.lost (Some k); hole = o })) (or-none v.hole)
      (slot-as F d name w (16 * (k + 1)) k v true false
      (skipped F d name w k v (λ n at. held-at n k Lost low at b) (ap is_bytes e) p) (ap machine.is_lost e)
      (ap machine.is_hole e))

  -- In a slot that holds

  module _ (e k place : ℕ) (payload name : List ℕ) (low : k < 72) (at : e / 16 ≡ k) (in_cell : e % 16 ≡ place)
      (bytes : value X d k ≡ Bytes payload) where
    pub entry-is : entry_at F d e ≡ entry_in payload place
    entry-is = held-at e k (Bytes payload) low at bytes ∙ ap (entry_in payload) in_cell

    name-is : machine.entry_has_name F d name e ≡ cells.has_name payload name place
    name-is = ap (name_test name) entry-is ∙ same-name name (entry_in payload place)
        ∙ sym (cell-name payload name place)

    empty-is : is_empty F d e ≡ not (is_some (entry_in payload place))
    empty-is =
        let v : machine.value_of F d (e / 16) ≡ Bytes payload = ap (machine.value_of F d) at
        ∙ value-at k (Bytes payload) low bytes in
        (λ j. is_bytes (v j) && not (is_some (entry-is j)))

    named-by : (o : Option Entry) (named : Named) → named_in o ≡ Some named
        → (it : Entry) × (o ≡ Some it) × (named ≡ named_by it)
    named-by None named en = cc
    named-by (Some it) named en = (it, refl, sym (cc en))

    -- what was seen of the place says whether it is a pair
    paired-as : (s : Option Paired) (named : Named) → named_in (entry_in payload place) ≡ Some named
        → IsNamed X (link_to d e dr.generation) named s
        → machine.is_paired F d e ≡ is_some s
    paired-as s named en is =
        let (it, eo, ei) = named-by (entry_in payload place) named en in
        let p : is_some (paired_kind (inode X named.inode) named (link_to d e dr.generation))
        ≡ machine.is_paired F d e =
        subst (λ (q : Named). is_some (paired_kind (inode X q.inode) q (link_to d e dr.generation))
        ≡ machine.is_paired F d e) (sym ei)
        (paired-is F X d e dr match a same folder it (entry-is ∙ eo) (inode X it.inode) refl) in
        sym p ∙ go s is
      where
        go : (s : Option Paired) → IsNamed X (link_to d e dr.generation) named s
            → is_some (paired_kind (inode X named.inode) named (link_to d e dr.generation)) ≡ is_some s
        go None is = ap is_some is
        go (Some p) is = ap is_some is.0

    some-place : (named : Named) → named_in (entry_in payload place) ≡ Some named
        → is_some (entry_in payload place) ≡ true
    some-place named en = let (it, eo, ei) = named-by (entry_in payload place) named en in ap is_some eo

    -- the place was passed: its entry has another name
    pub passes-other : (w : Bool) (v : Unfound) → cells.has_name payload name place ≡ false → Passed F d name w e k v
        → Passed F d name w (e + 1) k (other_seen w (entry_in payload place) e v)
    passes-other w v other p =
        let h : machine.entry_has_name F d name e ≡ false = name-is ∙ other in
        let o = first_or v.empty (where_true (w && not (is_some (entry_in payload place))) e) in
        subst (λ (dead : Option ℕ). Passed F d name w (e + 1) k (record v { dead = dead; empty = o }))
        (or-none v.dead)
        (one-as F d name w e k v false o p (rw h refl) (rw h refl)
        (λ t. ap (λ (b : Bool). first_or v.empty (where_true b e))
        (empty-is ∙ ap (λ (b : Bool). b && not (is_some (entry_in payload place))) (sym t))))

    -- or it has the name, and is no pair
    pub passes-dead : (w : Bool) (v : Unfound) (named : Named) → cells.has_name payload name place ≡ true
        → named_in (entry_in payload place) ≡ Some named → IsNamed X (link_to d e dr.generation) named None
        → Passed F d name w e k v
        → Passed F d name w (e + 1) k (record v { dead = first_or v.dead (Some e) })
    passes-dead w v named has en is p =
        let h = name-is ∙ has in
        let q = paired-as None named en is in
        one-as F d name w e k v true v.empty p (rw (h, q) refl) (rw (h, q) refl)
        (λ t. ap (λ (b : Bool). first_or v.empty (where_true b e)) (empty-is ∙ ap not (some-place named en))
        ∙ or-none v.empty)

    -- the place has the pair
    pub found-here : (w : Bool) (v : Unfound) (x : Paired) (named : Named) → cells.has_name payload name place ≡ true
        → named_in (entry_in payload place) ≡ Some named → IsNamed X (link_to d e dr.generation) named (Some x)
        → Passed F d name w e k v
        → IsFoundEntry F X d name x
    unfolding machine.found
    found-here w v x named has en nm p =
        let h = name-is ∙ has in
        let q = paired-as (Some x) named en nm in
        let (it, eo, ei) = named-by (entry_in payload place) named en in
        let range : e < entry_limit = omega (arith, low, at) in
        let here : x.entry ≡ e = nm.3 in
        let pk : paired_kind (inode X it.inode) (named_by it) (link_to d e dr.generation) ≡ Some x.kind =
        subst (λ (q : Named). paired_kind (inode X q.inode) q (link_to d e dr.generation) ≡ Some x.kind) ei nm.0 in
        let ag = paired-agreed F X d e dr match a same folder it (entry-is ∙ eo) (inode X it.inode) x.kind refl pk in
        let number : it.inode ≡ x.inode = ap (λ (q : Named). q.inode) (sym ei) ∙ sym nm.2 in
        record {
          found = least-found (finds F d name) e entry_limit p.none (rw (h, q) refl) range ∙ ap Some (sym here);
          pair = record {
            range = subst (λ (n : ℕ). n < entry_limit) (sym here) range;
            entry = it;
            at = ap (entry_at F d) here ∙ entry-is ∙ eo;
            names = number;
            named = has-that-name it eo has;
            paired = ap (machine.is_paired F d) here ∙ q;
            agreed = subst (λ (n : ℕ). agreed (files_in X) n ≡ true) number ag.0;
            generation =
                ag.2 ∙ ap (λ (r : Record). r.generation) (ap (inode X) (ap (λ (q : Named). q.inode) (sym ei)) ∙ nm.1);
          };
        }
      where
        has-that-name : (it : Entry) → entry_in payload place ≡ Some it
            → cells.has_name payload name place ≡ true → it.name ≡ name
        has-that-name it eo h =
            let b : bytes_eq it.name name ≡ true =
            sym (cell-name payload name place ∙ ap (λ (o : Option Entry). cells.is_named name (cells.name_of o)) eo)
            ∙ h in
            (bytes_eq-Decides it.name name).0 b
