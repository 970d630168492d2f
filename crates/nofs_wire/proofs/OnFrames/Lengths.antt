-- The length of a frame stands before its body.
use Rattle.std.proofs.Common.{◌≡◌, ℕ, ◌+◌, List, ◌++◌, length, drop, length-append, ap, ◌∙◌}
use Rattle.std.proofs.lemmas.List.{drop_at}
use Rattle.nofs_wire.specs.Frames.Replies.{frame_bytes}
use Rattle.nofs_wire.specs.Frames.Fields.{number_bytes}
use Rattle.nofs_wire.proofs.OnFrames.Fields.{length-number_bytes}

-- four bytes and a body
pub length_behind : (x : ℕ) (items body : List ℕ) → items ≡ number_bytes 4 x ++ body → length items ≡ 4 + length body
length_behind x items body is = ap length is ∙ length-append (number_bytes 4 x) body
    ∙ ap (λ n. n + length body) (length-number_bytes 4 x)

-- where the four bytes are its length, they are a frame
pub framed : (x size : ℕ) (items body : List ℕ) → items ≡ number_bytes 4 x ++ body → size ≡ length body
    → number_bytes 4 size ++ drop 4 items ≡ frame_bytes body
unfolding frame_bytes
framed x size items body is same =
    ap (λ l. number_bytes 4 size ++ drop 4 l) is
    ∙ ap (λ l. number_bytes 4 size ++ l) (drop_at (number_bytes 4 x) body 4 (length-number_bytes 4 x))
    ∙ ap (λ n. number_bytes 4 n ++ body) same
