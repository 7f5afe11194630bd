-- 2^64 - 1 over j is below the count just where 2^64 - 1 is below the product.
use mathlib.Core.Path.{◌≡◌, ap, ◌∙◌}
use mathlib.Core.Logic.{◌↔◌}
use Prim.Native.Nat.{ℕ, ◌*◌, ◌/◌, ◌<◌}
use native.Mathlib.Nat.{div-lt_iff_lt-mul}
use native.Mathlib.Decide.{dec_lt}
use native.Mathlib.Omega.{arith}
use borrow.Author.Tests.{lt-ltb, le-ltb}
use lib.Dec.{ltb}
use Rattle.paper.specs.Sets.{choose}
use Rattle.sets.proofs.choice.Choice.too_many.Goals as goal

over : (m j c : ℕ) → 0 < j → ltb (m / j) c ≡ ltb m (c * j)
over m j c h = go (dec_lt m (c * j)) (dec_lt (m / j) c)
  where
    both : (m / j < c) ↔ (m < c * j)
    both = div-lt_iff_lt-mul {k = j} {x = m} {y = c} h

    go : Dec (m < c * j) → Dec (m / j < c) → ltb (m / j) c ≡ ltb m (c * j)
    go (yes lt) d = rw (lt-ltb m (c * j) lt, lt-ltb (m / j) c (both.1 lt))
    go (no ge) (yes lt) = absurd (ge (both.0 lt))
    go (no ge) (no le) = rw (le-ltb m (c * j) (omega arith), le-ltb (m / j) c (omega arith))

pub returns : goal.returns
returns c =
    let n = c.args.self.n in
    let l = c.min-j.result in
    let less = c.args.self.fewer in
    let more = c.args.self.some in
    let some : 0 < l = omega arith in
    ap (ltb (18446744073709551615 / l)) c.n_choose_k.ensures
    ∙ over 18446744073709551615 l (choose n l) some
    ∙ ap (λ j. ltb 18446744073709551615 (choose n j * j)) c.min-j.ensures
