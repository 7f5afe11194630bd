use mathlib.Core.Path.{refl}
use native.Mathlib.Omega.{arith}
use Rattle.text.proofs.WordLaws.{word_not, word_over, word_more, word_end}
use Rattle.text.proofs.word.Goals as goal

pub loop-byte-init : goal.loop-byte-init
loop-byte-init c = record { within = omega arith; short = omega arith; left = refl }

pub returns-in_err-d : goal.returns-in_err-d
returns-in_err-d c =
    let l = c.loop-byte in
    rw c.from_residual.ensures (word_not _ _ l.v l.byte-index l.invariant (omega arith) c.in_err-d.ensures)

pub returns-in_err-checked_mul : goal.returns-in_err-checked_mul
returns-in_err-checked_mul c =
    let l = c.loop-byte in
    rw c.from_residual-in_err-checked_mul.ensures
    (word_over _ _ l.v l.byte-index l.invariant _ (omega arith) c.in_ok-d.ensures (omega arith) (omega (arith, c.in_err-checked_mul.ensures)))

pub returns-in_err-v : goal.returns-in_err-v
returns-in_err-v c =
    let l = c.loop-byte in
    rw c.from_residual-in_err-v.ensures
    (word_over _ _ l.v l.byte-index l.invariant _ (omega arith) c.in_ok-d.ensures (omega arith) (omega (arith, c.in_err-v.ensures, c.in_ok-checked_mul.ensures)))

pub loop-byte-preserved : goal.loop-byte-preserved
loop-byte-preserved c =
    let l = c.loop-byte in
    let v = c.in_ok-v.ensures in
    let m = c.in_ok-checked_mul.ensures in
    rw (v.1, m.1) (word_more _ _ l.v l.byte-index l.invariant _ (omega arith) c.in_ok-d.ensures (omega (arith, v, m)))

pub returns : goal.returns
returns c = let l = c.loop-byte in word_end _ _ l.v l.byte-index l.invariant (omega arith)
