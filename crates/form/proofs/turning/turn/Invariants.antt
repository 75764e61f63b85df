-- What is turned and what is left to turn make the whole list, turned.
use Rattle.std.proofs.Common.{◌*◌}
use Rattle.meaning.specs.Plan.{constraint_length}
use Rattle.form.proofs.TurningLaws.{Turning}
use Rattle.form.proofs.turning.turn.Given as goal

abbrev pub invariant-loop-k : goal.invariant-loop-k
invariant-loop-k l = Turning l.initial.constraints l.constraints (constraint_length * l.k)
