-- `rounded_up` meets its contract. The facts on numbers are laws of Product.antt; here they meet the places of the code.
-- A double that is handed in fits its format: that is what `good` knows of a parameter.
use Rattle.std.proofs.Common.{◌^◌, ◌≤◌, T, le_trans, arith, lit≤, le→leb}
use lib.Ieee.{binary64, fits, in_float}
use denote.Floats.{passes}
use Rattle.width.proofs.Product.{product_in_range, whole_le, width_more, width_even}
use Rattle.width.proofs.rounded_up.Goals as goal
use Rattle.width.proofs.rounded_up.Goals.{After-truncating_f64_to_u64-whole, Start}

pub int_to_float-product : goal.int_to_float-product
unfolding in_float
int_to_float-product c = le→leb c.args.n (2 ^ 53) (le_trans c.requires.n_bound (lit≤ tt))

fine : (s : Start) → T (fits binary64 s.args.fraction)
fine s = passes (fits binary64 s.args.fraction) s.well_formed.0.1

pub truncating_f64_to_u64-whole-requires : goal.truncating_f64_to_u64-whole-requires
truncating_f64_to_u64-whole-requires c =
    let within =
    product_in_range c.args.fraction c.args.n (fine (goal.at.truncating_f64_to_u64-whole-requires c).Start)
    c.requires.fraction_value c.requires.n_bound
    in
    record { lower_bound = within.0; upper_bound = within.1 }

at_most : (c : After-truncating_f64_to_u64-whole) → c.truncating_f64_to_u64-whole.result ≤ 1048576
at_most c =
    let fits = passes (fits binary64 c.args.fraction) c.well_formed.0.1 in
    let t = c.truncating_f64_to_u64-whole in
    le_trans (whole_le c.args.fraction c.args.n fits c.requires.fraction_value c.requires.n_bound t.result t.ensures) c.requires.n_bound

pub int_to_float-whole : goal.int_to_float-whole
unfolding in_float
int_to_float-whole c = le→leb c.truncating_f64_to_u64-whole.result (2 ^ 53) (le_trans (at_most (goal.at.int_to_float-whole c).After-truncating_f64_to_u64-whole) (lit≤ tt))

pub overflow_add-result : goal.overflow_add-result
overflow_add-result c = omega (arith, at_most (goal.at.overflow_add-result c).After-truncating_f64_to_u64-whole)

pub returns-then-whole-product : goal.returns-then-whole-product
returns-then-whole-product c =
    let t = c.truncating_f64_to_u64-whole in
    width_more c.args.fraction c.args.n (fine (goal.at.returns-then-whole-product c).Start) c.requires.fraction_value c.requires.n_bound t.result t.ensures c.if-whole-product.true

pub returns-else-whole-product : goal.returns-else-whole-product
returns-else-whole-product c =
    let t = c.truncating_f64_to_u64-whole in
    width_even c.args.fraction c.args.n (fine (goal.at.returns-else-whole-product c).Start) c.requires.fraction_value c.requires.n_bound t.result t.ensures c.if-whole-product.false
