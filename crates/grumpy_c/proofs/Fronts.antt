-- Words put at the front of others, and more behind them.
use mathlib.Core.List.{List, [], ◌++◌, append_assoc, append-nil}
use mathlib.Core.Path.{◌≡◌, refl}
use Prim.Native.Nat.{ℕ, ◌+◌, ◌-◌, ◌≤◌}
use native.Mathlib.Omega.{arith}
use lib.ListN.{length, take, drop, length-append, length-drop, drop_of_length-le}
use lib.Seq.{take-append_seam, drop-append_seam, drop-drop, take_all}
use borrow.Rule.Slice.PartMut.{put_mid}
use Rattle.grumpy_c.specs.Words.{with_front}

pub put_behind : (w a b v t : List ℕ) (n k : ℕ) → n ≡ length a → length a + length b ≤ length w → v ≡ with_front w a → k ≡ length v - n
    → t ≡ with_front (take k (drop n v)) b → put_mid n k v t ≡ with_front w (a ++ b)
unfolding with_front
put_behind w a b v t n k en l ev ek et =
    let s : take n v ≡ a = rw (ev, en) (take-append_seam a (drop (length a) w)) in
    let d : drop n v ≡ drop (length a) w = rw (ev, en) (drop-append_seam a (drop (length a) w)) in
    let long : length v ≡ length w = rw ev (omega (arith, length-append a (drop (length a) w), length-drop (length a) w)) in
    let few : length (drop (length a) w) ≤ k = omega (arith, length-drop (length a) w) in
    let z : drop k (drop (length a) w) ≡ [] = drop_of_length-le (drop (length a) w) {i = k} few in
    let whole : take k (drop (length a) w) ≡ drop (length a) w = take_all k (drop (length a) w) few in
    rw (et, s, d, whole, z) (simp (append-nil, append_assoc, length-append, drop-drop))
