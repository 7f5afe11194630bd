use mathlib.Core.Path.{◌≡◌, ap, ◌∙◌}
use native.Mathlib.Omega.{arith}
use borrow.Author.Rules.{rules}
use lib.ListN.{length, take}
use Rattle.std.proofs.lemmas.List.{get_or-take, length-take-le}
use Rattle.lists.specs.StoreLaws.{stored_up}
use Rattle.paper.specs.Folds.{even_borders}
use Rattle.paper.specs.Handed.{list_of}
use Rattle.laws.specs.Chosen.{fold_from, fold_to}
use Rattle.layouts.proofs.LayoutLaws.{set_below, set_begin, set_end}
use Rattle.layouts.proofs.fold_ranges.Goals as goal

pub loop-j-init : goal.loop-j-init
loop-j-init c = record {
  room = search rules;
  ranges = record { begin = λ k h. absurd (omega arith); end = λ k h. absurd (omega arith) };
}

pub fold_rows-requires : goal.fold_rows-requires
fold_rows-requires c = set_below c.requires c.loop-j.j (omega arith)

pub loop-j-preserved : goal.loop-j-preserved
loop-j-preserved c =
    let w = c.requires in
    let bs = even_borders c.args.n c.args.folds in
    let fs = list_of c.args.set in
    let l = c.loop-j in
    let e = c.fold_rows.ensures in
    record {
      room = search rules;
      ranges =
          record {
            begin =
                stored_up (λ k r. r.first ≡ fold_from bs fs k) l.buffer _ l.j _ (omega arith)
                (set_begin w l.j (omega arith) _ (ap (λ r. r.first) e)) l.invariant.ranges.begin;
            end =
                stored_up (λ k r. r.past ≡ fold_to bs fs k) l.buffer _ l.j _ (omega arith)
                (set_end w l.j (omega arith) _ (ap (λ r. r.past) e)) l.invariant.ranges.end;
          };
    }

pub returns-clause-ranges : goal.returns-clause-ranges
returns-clause-ranges c =
    let l = c.loop-j in
    let n = c.args.set.count in
    let filled : length (take n c.args.set.folds) ≡ n = length-take-le n c.args.set.folds (omega arith) in
    record {
      begin = λ k h. ap (λ r. r.first) (get_or-take n l.buffer k _ h) ∙ l.invariant.ranges.begin k (omega arith);
      end = λ k h. ap (λ r. r.past) (get_or-take n l.buffer k _ h) ∙ l.invariant.ranges.end k (omega arith);
    }
