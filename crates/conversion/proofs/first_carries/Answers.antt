-- The outside areas are all 0, there is no flight, and of constraints that the second sheet takes those that the first takes have a kind up to 4.
use Rattle.std.specs.Prelude.{◌≡◌, eqb}
use Rattle.std.specs.List.{list_all}
use Rattle.std.proofs.Common.{sym, ◌∙◌, rules, tests}
use Rattle.std.proofs.lemmas.Iterator.{YieldsList-from_slice}
use Rattle.std.proofs.lemmas.Iterator.Search.{all_from_yields_List}
use Rattle.holding.specs.Held.{contents_held}
use Rattle.conversion.specs.ConvertLaws.{some_outside, some_flights, kinds_only}
use Rattle.conversion.proofs.first_carries.Goals as goal
use Rattle.conversion.proofs.first_carries.Goals.{then-all, else-all, After-all}

-- what is tested of the outside areas
zeros : (c : After-all) → c.all.result ≡ list_all (λ x. eqb x 0) c.lists_in-lists.result.outside.now
zeros c = all_from_yields_List (λ x. eqb x 0) _ _ _ c.all.ensures.ran (YieldsList-from_slice c.lists_in-lists.result.outside.now (cc)) (λ x b q k. search (rules, tests))

pub returns-then-is_empty : goal.returns-then-is_empty
returns-then-is_empty c =
    let k = contents_held c.args.head c.args.held.now in
    let l = c.lists_in-lists.ensures in
    let z = zeros (goal.at.returns-then-is_empty c).After-all in
    elim c.if-all.branch [
      | then-all w ↦ kinds_only k l.outside z l.counts w.is_empty.ensures c.requires.held_value c.first_bad_constraint.result w.if-all.true (sym w.value-is ∙ c.if-is_empty.true) l.constraints c.first_bad_constraint.ensures c.is_none.ensures
      | else-all w ↦ absurd (cc)
    ]

pub returns-else-is_empty : goal.returns-else-is_empty
returns-else-is_empty c =
    let k = contents_held c.args.head c.args.held.now in
    let l = c.lists_in-lists.ensures in
    let z = zeros (goal.at.returns-else-is_empty c).After-all in
    elim c.if-all.branch [
      | then-all w ↦ c.if-is_empty.false ∙ some_flights k l.outside z l.counts w.is_empty.ensures (sym w.value-is ∙ c.if-is_empty.false)
      | else-all w ↦ c.if-is_empty.false ∙ some_outside k l.outside z w.if-all.false
    ]
