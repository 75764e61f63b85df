-- The lists that are held have as many of each as the head says; of the outside areas those are put down that the form has.
use Rattle.std.specs.Prelude.{◌≡◌}
use Rattle.form.specs.FormLaws.{Bounded}
use Rattle.form.proofs.FormLaws.{bounded}
use Rattle.holding.specs.Held.{contents_held}
use Rattle.writing.specs.Promise.{contents}
use Rattle.conversion.specs.ConvertLaws.{same_lists, held_many, held_sheet}
use Rattle.conversion.proofs.write_held.Goals as goal
use Rattle.conversion.proofs.write_held.Goals.{Start, After-colouring_in}

-- the head's numbers are no larger than the limits allow
within : (c : Start) → Bounded c.args.head
within c = bounded c.args.to c.requires.0.limits

-- the lists are those that are held
same : (c : After-colouring_in) → contents c.args.head.regions c.args.head.sectors c.lists_in-lists.result.workloads.now c.lists_in-lists.result.outside.now c.lists_in-lists.result.edges.now c.lists_in-lists.result.counts.now c.lists_in-lists.result.visits.now c.lists_in-lists.result.constraints.now c.colouring_in.result.now ≡ contents_held c.args.head c.args.held.now
same c = let l = c.lists_in-lists.ensures in same_lists (contents_held c.args.head c.args.held.now) l.workloads l.outside l.edges l.counts l.visits l.constraints c.colouring_in.ensures

pub write_contents-requires : goal.write_contents-requires
write_contents-requires c = record { has_blocks = c.requires.0; so_many = held_many c.args.to c.args.head c.args.held.now (within (goal.at.write_contents-requires c).Start) c.requires.1 (same (goal.at.write_contents-requires c).After-colouring_in) c.outside_count-stored.ensures }

pub returns : goal.returns
returns c =
    held_sheet c.args.to c.args.head c.args.held.now (within (goal.at.returns c).Start) c.requires.1 (same (goal.at.returns c).After-colouring_in) c.outside_count-stored.ensures
    c.args.converted.now
    {out = c.write_contents.new.sheet}
    c.write_contents.ensures
