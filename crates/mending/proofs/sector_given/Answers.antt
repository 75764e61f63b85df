-- The neighbour found is a region, and its sector is read.
use Rattle.std.proofs.Common.{arith, sym, refl}
use Rattle.std.specs.Prelude.{length}
use Rattle.lists.specs.Sums.{In}
use Rattle.mending.specs.Along.{any_none, any_some}
use Rattle.mending.specs.MendedLaws.{given_one, given_region, given-sector}
use Rattle.mending.proofs.sector_given.Goals as goal

pub offset_bounds-colouring-lowest : goal.offset_bounds-colouring-lowest
offset_bounds-colouring-lowest c =
    let p = any_some _ c.in-Some.ensures in
    let i : In (length c.args.colouring.now) c.in-Some.lowest.0 = given_region _ _ _ p.0 p.1 in
    omega arith

pub bounds-colouring-lowest : goal.bounds-colouring-lowest
bounds-colouring-lowest c =
    let p = any_some _ c.in-Some.ensures in
    let i : In (length c.args.colouring.now) c.in-Some.lowest.0 = given_region _ _ _ p.0 p.1 in
    omega arith

pub returns-in-Some : goal.returns-in-Some
returns-in-Some c = let p = any_some _ c.in-Some.ensures in sym (given-sector _ _ _ p.0 p.1)

pub returns-in-None : goal.returns-in-None
returns-in-None c = sym (given_one _ _ _ (sym (any_none _ c.in-None.ensures)) refl)
