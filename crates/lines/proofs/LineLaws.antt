-- Laws of a line: it begins empty, an append makes it longer, and where it fits it can be read. No test is needed on the way.
use mathlib.Core.Path.{◌≡◌, refl, sym, ap, ◌∙◌}
use mathlib.Core.List.{List, [], ◌++◌}
use Prim.Native.Nat.{ℕ, ◌+◌, ◌≤◌, ◌<◌}
use native.Mathlib.Omega.{arith}
use native.Mathlib.Decide.{dec_le}
use lib.ListN.{length, take, drop, length-append}
use lib.Seq.{take_at, drop_at, drop-drop}
use Rattle.lines.specs.Appended.{Appended, Line}
use Rattle.lines.proofs.AppendLaws.{append_place, append_bytes, append_full, append-length}

pub line_start : (buffer : List ℕ) → Line buffer [] buffer 0
line_start buffer = record { long = refl; fitted = λ h. (refl, refl); full = λ h. absurd (omega arith) }

-- A line that fits is what stands in front of the place behind it.
pub line_holds : {buffer text after : List ℕ} {at : ℕ} → Line buffer text after at → length text ≤ length buffer → take at after ≡ text
line_holds {buffer} {text} l h =
    let f = l.fitted h in
    rw (f.0, f.1) (take_at text (drop (length text) buffer) (length text) refl)

module _ {buffer text after : List ℕ} {at : ℕ} {more later : List ℕ} {next : ℕ} (l : Line buffer text after at) (a : Appended after at more later next) where
  longer : length (text ++ more) ≡ length text + length more
  longer = length-append text more

  more_fitted : length (text ++ more) ≤ length buffer → (next ≡ length (text ++ more)) × (later ≡ (text ++ more) ++ drop (length (text ++ more)) buffer)
  more_fitted h =
      let f = l.fitted (omega (arith, longer)) in
      let room : at + length more ≤ length after = omega (arith, l.long, f.0, longer) in
      let size : at + length more ≡ length (text ++ more) = omega (arith, f.0, longer) in
      let front : take at after ≡ text = line_holds l (omega (arith, longer)) in
      let back : drop (at + length more) after ≡ drop (length (text ++ more)) buffer =
      sym (drop-drop (length more) at after)
      ∙ ap (drop (length more)) (rw (f.0, f.1) (drop_at text (drop (length text) buffer) (length text) refl))
      ∙ drop-drop (length more) (length text) buffer
      ∙ ap (λ k. drop k buffer) (sym longer)
      in
      (append_place after at more later next a room ∙ size, append_bytes after at more later next a room ∙ rw (front, back))

  more_full : length buffer < length (text ++ more) → length buffer < next
  more_full h = go (dec_le (length text) (length buffer))
    where
      past : length after < at + length more → length buffer < next
      past o = omega (arith, l.long, (append_full after at more later next a o).0)

      go : Dec (length text ≤ length buffer) → length buffer < next
      go (yes t) = past (omega (arith, l.long, (l.fitted t).0, longer))
      go (no t) = past (omega (arith, l.long, l.full (omega arith)))

  pub line_more : Line buffer (text ++ more) later next
  line_more =
      record { long = append-length after at more later next a ∙ l.long; fitted = more_fitted; full = more_full }
