-- The part is as long as the zeros that it is held to.
use Rattle.std.specs.Prelude.{eqb}
use Rattle.std.proofs.Common.{◌∙◌, rules, tests}
use Rattle.std.proofs.lemmas.Iterator.{YieldsList-from_slice}
use Rattle.std.proofs.lemmas.Iterator.Search.{all_from_yields_List}
use Rattle.packing.specs.Part.{part, length_part}
use Rattle.blocks.proofs.Tests.{all_same}
use Rattle.blocks.proofs.faults.zero_part.Goals as goal

pub returns : goal.returns
returns c =
    let bytes = part c.args.from c.args.to c.args.block.now in
    all_from_yields_List (λ x. eqb x 0) _ _ _ c.all.ensures.ran (YieldsList-from_slice bytes (cc)) (λ x b q k. search (rules, tests))
    ∙ all_same bytes _ (length_part c.args.from c.args.to c.args.block.now c.requires.0 c.requires.1)
