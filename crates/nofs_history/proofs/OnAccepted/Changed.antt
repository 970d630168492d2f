-- One file that is taken out, changed and put back: what becomes of it by what a step gives.
use Rattle.std.proofs.Common.{◌≡◌, ℕ, Bool, true, false, ◌&&◌, cond, eqb, Option, Some, None, unwrap_or, refl, sym, ap}
use Rattle.std.proofs.Common.{◌∙◌, eq-eqb}
use Rattle.nofs_model.specs.Files.{FileState, Files}
use Rattle.nofs_model.specs.declared.image.value.Value.{Value}
use Rattle.nofs_history.specs.Meta.{Meta, Is}
use Rattle.nofs_history.specs.Machine.{Given, is_at, value_of, size_of, cell_given, meta_given, no_meta, meta_with}
use Rattle.nofs_history.specs.Machine.{resize_slot, resize_given}
use Rattle.nofs_history.specs.Machine.{with_meta, after_meta, file_after, files_after}
use Rattle.nofs_history.specs.Accepted.Files.{kept_file, kept_files, with_file, with_value, has_generation}
use Rattle.nofs_history.specs.Accepted.Files.{resized_value, resized_file}
use Rattle.nofs_history.specs.Accepted.Taken.{metas_alone}
use Rattle.nofs_history.proofs.OnAccepted.Alike.{ends, held, ends-after}
use Rattle.nofs_history.proofs.OnAccepted.Aimed.{IsAimed, aimed-missing, aimed-there, aimed-gone}

pub change-none : (F M : Files) (a : Given) (i g : ℕ) → IsAimed a i g
    → M ≡ F → has_generation F i g ≡ false → kept_files M ≡ kept_files (files_after F a)
change-none F M a i g aimed same missing = ap kept_files same ∙ aimed-missing F a i g aimed missing

pub change-there : (F M N : Files) (a : Given) (i g : ℕ) (f f' : FileState) → IsAimed a i g → F i ≡ Some f
    → M ≡ with_file F i None
    → N ≡ with_file M i (Some f')
    → kept_file (file_after a i (Some f)) ≡ kept_file (Some f') → kept_files N ≡ kept_files (files_after F a)
change-there F M N a i g f f' aimed there out back same =
    ap kept_files (back ∙ ap (λ (G : Files). with_file G i (Some f')) out) ∙ aimed-there F a i g f f' aimed there same

pub change-gone : (F M : Files) (a : Given) (i g : ℕ) (f : FileState) → IsAimed a i g → F i ≡ Some f
    → M ≡ with_file F i None
    → file_after a i (Some f) ≡ None → kept_files M ≡ kept_files (files_after F a)
change-gone F M a i g f aimed there out gone = ap kept_files out ∙ aimed-gone F a i g f aimed there gone

at-this : (i g h : ℕ) → h ≡ g → is_at i g i h ≡ true
at-this i g h e = rw (eq-eqb i i refl, eq-eqb g h (sym e)) refl

-- the file, by the meta and the values that are given to it
there : (a : Given) (i : ℕ) (f : FileState) (m : Option Meta) (s : ℕ → Option Value)
    → a.metas i f.generation ≡ m → ((k : ℕ) → a.slots i f.generation k ≡ s k)
    → kept_file (file_after a i (Some f)) ≡ ends m f.generation f.kind f.size f.links
    (held (λ k. unwrap_or (s k) (f.values k)))
there a i f m s em es = ends-after a i (a.metas i f.generation) f
    ∙ (λ j. ends (em j) f.generation f.kind f.size f.links (held (λ k. unwrap_or (es k j) (f.values k))))

pick : (b : Bool) (v old : Value) → unwrap_or (cond b (Some v) None) old ≡ cond b v old
pick true v old = refl
pick false v old = refl

pub cell-there : (i g k : ℕ) (v : Value) (f f' : FileState) → f.generation ≡ g → f' ≡ with_value f k v
    → kept_file (file_after (cell_given i g k v no_meta) i (Some f)) ≡ kept_file (Some f')
cell-there i g k v f f' e is =
    let b = at-this i g f.generation e in
    there (cell_given i g k v no_meta) i f None (λ l. cond (eqb k l) (Some v) None) refl
    (λ l. ap (λ (t : Bool). cond (t && eqb k l) (Some v) None) b)
    ∙ (λ j. ends None f.generation f.kind f.size f.links (held (λ l. pick (eqb k l) v (f.values l) j)))
    ∙ ap (λ (h : FileState). kept_file (Some h)) (sym is)

pub meta-there : (i g : ℕ) (m : Meta) (f : FileState)
    → f.generation ≡ g → file_after (metas_alone (meta_given i g m)) i (Some f) ≡ with_meta f m
meta-there i g m f e = ap (λ (b : Bool). after_meta (cond b (Some m) None) f) (at-this i g f.generation e)

pub resize-there : (F : Files) (i g size : ℕ) (f f' : FileState) → F i ≡ Some f → f.generation ≡ g
    → kept_file (Some f') ≡ kept_file (Some (resized_file f size))
    → kept_file (file_after (resize_given F i g size) i (Some f)) ≡ kept_file (Some f')
resize-there F i g size f f' is e made =
    let b = at-this i g f.generation e in
    let old : size_of F i ≡ f.size = rw (is, size_of) refl in
    let value : (k : ℕ) → value_of F i k ≡ f.values k = λ k. rw (is, value_of) refl in
    there (resize_given F i g size) i f (Some (Is f.kind size f.links)) (λ k. resized_value f.size size (f.values k) k)
    (let m : meta_with F i (λ h. Is h.kind size h.links) ≡ Is f.kind size f.links = rw (is, meta_with) refl in
    λ j. cond (b j) (Some (m j)) None)
    (λ k. ap (λ (t : Bool). cond t (resize_slot F i size k) None) b ∙ (λ j. resized_value (old j) size (value k j) k))
    ∙ sym made
