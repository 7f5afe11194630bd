-- Laws of an append: what it leaves where it fits and where it does not, in front and behind.
use mathlib.Core.Path.{◌≡◌, ap}
use mathlib.Core.List.{List, ◌++◌}
use Prim.Native.Nat.{ℕ, ◌+◌, ◌≤◌, ◌<◌}
use native.Mathlib.Omega.{arith}
use native.Mathlib.Decide.{dec_le}
use lib.ListN.{length, take, drop, length-append, length-take, length-drop}
use lib.Seq.{take_at, drop_at}
use borrow.Author.Tests.{le-leb, lt-leb}
use Rattle.lines.specs.Appended.{overwritten, Appended}

module _ (buffer : List ℕ) (at : ℕ) (text : List ℕ) where
  module _ (after : List ℕ) (next : ℕ) (a : Appended buffer at text after next) where
    -- A text that fits ends at the place that is answered. One that does not leaves all as it was.
    pub append_place : at + length text ≤ length buffer → next ≡ at + length text
    append_place h = rw (le-leb (at + length text) (length buffer) h) at a.place

    pub append_bytes : at + length text ≤ length buffer → after ≡ overwritten buffer at text
    append_bytes h = rw (le-leb (at + length text) (length buffer) h) at a.bytes

    pub append_full : length buffer < at + length text → (next ≡ length buffer + 1) × (after ≡ buffer)
    append_full h =
        let t = lt-leb (at + length text) (length buffer) h in
        (rw t at a.place, rw t at a.bytes)

    -- The buffer keeps its length; what was in front stays, and then comes the text.
    pub append-length : length after ≡ length buffer
    append-length = go (dec_le (at + length text) (length buffer))
      where
        go : Dec (at + length text ≤ length buffer) → length after ≡ length buffer
        go (yes h) = rw (append_bytes h) (simp (length-append, length-take, length-drop) (omega arith))
        go (no g) = ap length (append_full (omega arith)).1

    pub append-holds : at + length text ≤ length buffer → take next after ≡ take at buffer ++ text
    append-holds h =
        rw (append_place h, append_bytes h)
        (take_at (take at buffer ++ text) (drop (at + length text) buffer) (at + length text) (simp (length-append, length-take) (omega arith)))

    pub append-behind : at + length text ≤ length buffer → drop next after ≡ drop next buffer
    append-behind h =
        rw (append_place h, append_bytes h)
        (drop_at (take at buffer ++ text) (drop (at + length text) buffer) (at + length text) (simp (length-append, length-take) (omega arith)))
