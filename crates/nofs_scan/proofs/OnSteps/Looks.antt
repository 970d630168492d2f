-- Elements that are looked at, one after another.
use Rattle.std.proofs.Common.{◌≡◌, ℕ, ◌+◌, ◌/◌, ◌<◌, ◌≤◌, Bool, true, false, cond, leb, List, Option, [], ◌∷◌, ◌++◌}
use Rattle.std.proofs.Common.{length, map, take, get_or, IsTrue}
use Rattle.std.proofs.Common.{Result, Ok, Err, refl, sym, ap, ◌∙◌, subst, arith, le_refl}
use Rattle.std.specs.List.{All}
use Rattle.std.proofs.lemmas.List.Elements.{All-nil, All-push}
use Rattle.std.proofs.lemmas.List.{map-append, take_all, take_more}
use Rattle.nofs_disk.specs.declared.Failed.{Failed}
use Rattle.nofs_disk.specs.Disk.{DiskState, StaysButFaults}
use Rattle.nofs_disk.specs.Chains.{Rose-within, StaysButFaults-refl, StaysButFaults-trans}
use Rattle.nofs_super.specs.declared.superblock.SuperBlock.{SuperBlock}
use Rattle.nofs_model.specs.Geometry.{Image}
use Rattle.nofs_model.specs.Owners.{is_fixed_block}
use Rattle.nofs_history.specs.declared.machine.steps.ElementKind.{ElementKind}
use Rattle.nofs_history.specs.declared.machine.steps.ElementKind.TheVariants as element
use Rattle.nofs_history.specs.declared.machine.replies.Refusal.{Refusal}
use Rattle.nofs_history.specs.declared.machine.replies.Refusal.TheVariants as refusal
use Rattle.nofs_agree.specs.Chain.{AreTrue, LearnsAgreement}
use Rattle.nofs_agree.specs.Reads.{IsAt}
use Rattle.nofs_agree.proofs.OnChain.{told-on}
use Rattle.nofs_agree.proofs.OnKnown.{learns-more, learns-none}
use Rattle.nofs_scan.specs.Steps.Elements.{HasElement, IsScanVerdict, is_used, items_of, least_free}
use Rattle.nofs_scan.specs.Steps.Looks.{LooksAll, LooksAt, LooksFail}
use Rattle.nofs_scan.specs.Sights.Reads.{Sees}
use Rattle.nofs_scan.specs.Sights.Verdicts.{block_sight, inode_sight, item_of, sight_verdict, sight_in, verdict_by}
use Rattle.nofs_scan.specs.declared.sights.evidence.Verdict.{Verdict}
use Rattle.nofs_scan.specs.declared.sights.sights.BlockSight.{BlockSight}
use Rattle.nofs_scan.specs.declared.sights.sights.InodeSight.{InodeSight}
use Rattle.nofs_scan.specs.declared.sights.sights.Sight.{Sight}
use Rattle.nofs_scan.specs.declared.sights.sights.Sight.TheVariants as sight
use Rattle.nofs_scan.proofs.OnSights.Verdicts.{judged-is}
use Rattle.nofs_scan.proofs.OnSteps.Elements.{above, not-above}

-- what was read of an element gives the verdict of the scan
right-of : (old new : DiskState) (at : SuperBlock) (known more : List (Option Bool)) (kind : ElementKind) (item : ℕ)
    (s : Sight) → IsAt old at
    → HasElement kind at item
    → Sees old new known more (λ X. sight_in kind X item) (Ok s)
    → item_of s ≡ item → (sight_verdict s ≡ false → least_free kind at ≤ item)
    → IsScanVerdict old at known kind (verdict_by s)
right-of old new at known more kind item s is range sees same may =
    subst (λ (i : ℕ). IsScanVerdict old at known kind (record { item = i; used = sight_verdict s }))
    (sym same) (record {
      range = range;
      may = may;
      scan = λ tells agreed. ap sight_verdict (sees.found tells agreed)
          ∙ judged-is old.now kind item
          (subst (λ (n : SuperBlock). HasElement kind n item) (sym (is.same tells)) range);
    })

-- a part of a sight was read
sight-of : {T : Type 0} (old new : DiskState) (known more : List (Option Bool)) (f : Image → T) (g : T → Sight)
    (whole : Image → Sight) (a : T)
    → Sees old new known more f (Ok a)
    → (IsTrue old.tells → g (f old.now) ≡ whole old.now) → Sees old new known more whole (Ok (g a))
sight-of old new known more f g whole a s is = record {
  stays = s.stays;
  learns = s.learns;
  found =
      λ tells agreed. ap g (s.found tells agreed) ∙ is tells;
  cause = tt;
  no_fault = s.no_fault;
}

pub inode-looked : (old new : DiskState) (at : SuperBlock) (known more : List (Option Bool)) (i : ℕ)
    (s : InodeSight) → IsAt old at
    → HasElement element.Inode at i
    → Sees old new known more (λ X. inode_sight X i) (Ok s)
    → s.inode ≡ i → LooksAt old at known more new element.Inode i (Ok (sight.Inode s))
inode-looked old new at known more i s is range sees same =
    let whole = sight-of old new known more (λ X. inode_sight X i) sight.Inode (λ X. sight_in element.Inode X i) s sees
    (λ tells. refl) in
    record {
      sees = whole;
      number = same;
      right = right-of old new at known more element.Inode i (sight.Inode s) is range whole same (λ e. omega arith);
    }

block-if : (X : Image) (b : ℕ) (f : Bool)
    → is_fixed_block X b ≡ f → sight_in element.Block X b ≡ cond f (sight.Fixed b) (sight.Block (block_sight X b))
block-if X b f e = ap (λ (t : Bool). cond t (sight.Fixed b) (sight.Block (block_sight X b))) e

fixed-as : (old : DiskState) (at : SuperBlock) (b : ℕ) (f : Bool) → IsAt old at
    → leb b (at.inodes / 4) ≡ f → IsTrue old.tells → is_fixed_block old.now b ≡ f
fixed-as old at b f is e tells = ap (λ (n : SuperBlock). leb b (n.inodes / 4)) (is.same tells) ∙ e

pub fixed-looked : (old : DiskState) (at : SuperBlock) (known : List (Option Bool)) (b : ℕ) → IsAt old at
    → HasElement element.Block at b → b ≤ at.inodes / 4
    → LooksAt old at known known old element.Block b (Ok (sight.Fixed b))
fixed-looked old at known b is range low =
    let whole : Sees old old known known (λ X. sight_in element.Block X b) (Ok (sight.Fixed b)) = record {
      stays = StaysButFaults-refl old;
      learns = learns-none old known;
      found = λ tells agreed.
          sym (block-if old.now b true (fixed-as old at b true is (not-above b (at.inodes / 4) low) tells));
      cause = tt;
      no_fault = refl;
    } in
    record {
      sees = whole;
      number = refl;
      right = right-of old old at known known element.Block b (sight.Fixed b) is range whole refl (λ e. cc);
    }

pub block-looked : (old new : DiskState) (at : SuperBlock) (known more : List (Option Bool)) (b : ℕ)
    (s : BlockSight) → IsAt old at
    → HasElement element.Block at b → at.inodes / 4 < b
    → Sees old new known more (λ X. block_sight X b) (Ok s)
    → s.block ≡ b → LooksAt old at known more new element.Block b (Ok (sight.Block s))
block-looked old new at known more b s is range high sees same =
    let whole = sight-of old new known more (λ X. block_sight X b) sight.Block (λ X. sight_in element.Block X b) s sees
    (λ tells. sym (block-if old.now b false (fixed-as old at b false is (above b (at.inodes / 4) high) tells))) in
    record {
      sees = whole;
      number = same;
      right = right-of old new at known more element.Block b (sight.Block s) is range whole same
          (λ e. omega (arith, high));
    }

-- the first of the elements were looked at
pub record Looked (old : DiskState) (at : SuperBlock) (known more : List (Option Bool)) (now : DiskState)
    (kind : ElementKind) (asked : List ℕ) (place : ℕ)
    (ss : List Sight) : Type 0 where
  pub stays : StaysButFaults old now
  pub no_fault : now.faults ≡ old.faults
  pub learns : LearnsAgreement old known more
  pub sees : IsTrue old.tells → AreTrue old.now known → ss ≡ map (sight_in kind old.now) (take place asked)
  pub items : items_of (map verdict_by ss) ≡ take place asked
  pub right : All (IsScanVerdict old at known kind) (map verdict_by ss)

pub looked-begins : (old : DiskState) (at : SuperBlock) (known : List (Option Bool)) (kind : ElementKind)
    (items : List ℕ)
    → Looked old at known known old kind items 0 []
looked-begins old at known kind items = record {
  stays = StaysButFaults-refl old;
  no_fault = refl;
  learns = learns-none old known;
  sees = λ tells agreed. refl;
  items = refl;
  right = All-nil (IsScanVerdict old at known kind);
}

-- What is right of a disk that stayed, with more known of it, is right of it before, and so is what was seen
module _ (old now : DiskState) (known more : List (Option Bool)) (stays : StaysButFaults old now)
    (learns : LearnsAgreement old known more) where
  true-now : IsTrue old.tells → AreTrue old.now known → AreTrue now.now more
  true-now tells agreed = subst (λ (X : Image). AreTrue X more) (sym stays.cells.now) (learns.still tells agreed)

  right-before : (at : SuperBlock) (kind : ElementKind) (v : Verdict) → IsScanVerdict now at more kind v
      → IsScanVerdict old at known kind v
  right-before at kind v r = record {
    range = r.range;
    may = r.may;
    scan = λ tells agreed. subst (λ (X : Image). v.used ≡ is_used kind X v.item) stays.cells.now
        (r.scan (told-on old now stays tells) (true-now tells agreed));
  }

  seen-before : (kind : ElementKind) (item : ℕ) (s : Sight)
      → (IsTrue now.tells → AreTrue now.now more → s ≡ sight_in kind now.now item) → IsTrue old.tells
      → AreTrue old.now known
      → s ≡ sight_in kind old.now item
  seen-before kind item s f tells agreed = subst (λ (X : Image). s ≡ sight_in kind X item) stays.cells.now
      (f (told-on old now stays tells) (true-now tells agreed))

pub looked-goes : (old now new : DiskState) (at : SuperBlock) (known more most : List (Option Bool))
    (kind : ElementKind) (items : List ℕ) (place d : ℕ)
    (ss ts : List Sight) (s : Sight)
    → Looked old at known more now kind items place ss → place < length items
    → LooksAt now at more most new kind (get_or items place d) (Ok s)
    → ts ≡ ss ++ s ∷ [] → Looked old at known most new kind items (place + 1) ts
looked-goes old now new at known more most kind items place d ss ts s l low looks e =
    let all : map verdict_by ts ≡ map verdict_by ss ++ verdict_by s ∷ [] = ap (map verdict_by) e
    ∙ map-append verdict_by ss (s ∷ []) in
    let next : take (place + 1) items ≡ take place items ++ get_or items place d ∷ [] = take_more items place d low in
    record {
      stays = StaysButFaults-trans old now new l.stays looks.sees.stays;
      no_fault = looks.sees.no_fault ∙ l.no_fault;
      learns = learns-more old now known more most l.stays l.learns looks.sees.learns;
      sees = λ tells agreed.
          let one : s ≡ sight_in kind old.now (get_or items place d) =
          seen-before old now known more l.stays l.learns kind (get_or items place d) s looks.sees.found tells agreed in
          e ∙ (λ j. l.sees tells agreed j ++ one j ∷ [])
          ∙ sym (map-append (sight_in kind old.now) (take place items) (get_or items place d ∷ []))
          ∙ ap (map (sight_in kind old.now)) (sym next);
      items = ap items_of all ∙ map-append (λ (v : Verdict). v.item) (map verdict_by ss) (verdict_by s ∷ [])
          ∙ (λ j. l.items j ++ looks.number j ∷ [])
          ∙ sym next;
      right = subst (All (IsScanVerdict old at known kind)) (sym all)
          (All-push (IsScanVerdict old at known kind) (map verdict_by ss) (verdict_by s) l.right
          (right-before old now known more l.stays l.learns at kind (verdict_by s) looks.right));
    }

pub looked-ends : (old now : DiskState) (at : SuperBlock) (known more : List (Option Bool)) (kind : ElementKind)
    (items : List ℕ) (place : ℕ) (ss : List Sight)
    → Looked old at known more now kind items place ss
    → length items ≤ place → LooksAll old at known more now kind items (Ok ss)
looked-ends old now at known more kind items place ss l all =
    let whole : take place items ≡ items = take_all place items all in
    record {
      stays = l.stays;
      learns = l.learns;
      sees = λ tells agreed. l.sees tells agreed ∙ ap (map (sight_in kind old.now)) whole;
      items = l.items ∙ whole;
      right = l.right;
      no_fault = l.no_fault;
      refused = tt;
    }

looked-refused : (old now new : DiskState) (at : SuperBlock) (known more most : List (Option Bool)) (kind : ElementKind)
    (items : List ℕ) (place item : ℕ)
    (ss : List Sight) (r : Result Sight Failed) (why : Refusal)
    → Looked old at known more now kind items place ss → LooksAt now at more most new kind item r
    → LooksFail old new why
    → LooksAll old at known most new kind items (Err why)
looked-refused old now new at known more most kind items place item ss r why l looks fails = record {
  stays = StaysButFaults-trans old now new l.stays looks.sees.stays;
  learns = learns-more old now known more most l.stays l.learns looks.sees.learns;
  sees = tt;
  items = tt;
  right = tt;
  no_fault = tt;
  refused = fails;
}

-- a read failed on the way
pub looked-unread : (old now new : DiskState) (at : SuperBlock) (known more most : List (Option Bool))
    (kind : ElementKind) (items : List ℕ) (place item : ℕ)
    (ss : List Sight) (x : Failed)
    → Looked old at known more now kind items place ss → LooksAt now at more most new kind item (Err x)
    → LooksAll old at known most new kind items (Err refusal.ReadFault)
looked-unread old now new at known more most kind items place item ss x l looks =
    looked-refused old now new at known more most kind items place item ss (Err x) refusal.ReadFault l looks
    (Rose-within old.faults now.faults new.faults new.faults l.stays.disk.faults looks.sees.cause (le_refl new.faults))

-- memory was wanting
pub looked-full : (old now new : DiskState) (at : SuperBlock) (known more most : List (Option Bool))
    (kind : ElementKind) (items : List ℕ) (place item : ℕ)
    (ss : List Sight) (s : Sight)
    → Looked old at known more now kind items place ss → LooksAt now at more most new kind item (Ok s)
    → LooksAll old at known most new kind items (Err refusal.OutOfMemory)
looked-full old now new at known more most kind items place item ss s l looks =
    looked-refused old now new at known more most kind items place item ss (Ok s) refusal.OutOfMemory l looks
    (looks.sees.no_fault ∙ l.no_fault)
