-- The first four numbers are the first constraint, and the others hold those after it.
use Rattle.std.proofs.Common.{◌-◌, ◌<◌, take, drop, length, rules, arith}
use Rattle.std.proofs.lemmas.List.{take_rest}
use Rattle.meaning.specs.Plan.{constraints_of}
use Rattle.kinds.specs.Constraints.{constraints_first}
use Rattle.kinds.proofs.ConstraintsIterator.next.Goals as goal

pub returns-clause-steps : goal.returns-clause-steps
returns-clause-steps c = rw take_rest (constraints_first _ c.in-len4-up.len_at_least)

pub returns-clause-goes : goal.returns-clause-goes
returns-clause-goes c =
    let e = constraints_first c.args.self.now.0.now c.in-len4-up.len_at_least in
    let l : length (constraints_of (take (length c.args.self.now.0.now - 4) (drop 4 c.args.self.now.0.now))) < length (constraints_of c.args.self.now.0.now) = rw (take_rest, e) (omega arith) in
    search rules
