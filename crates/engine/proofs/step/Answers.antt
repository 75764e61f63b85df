-- Each arm finds what its function wants, and what the function answers is the answer of the move.
use Rattle.engine.specs.Remade.{ready_left}
use Rattle.engine.specs.Remembering.{remembered_recolour, remembered_exchange, remembered_recolour_probed, remembered_exchange_probed, remembered_ask, remembered_refused}
use Rattle.engine.specs.Stepping.{recolour_tries, exchange_tries, recolour_finds, exchange_finds, made_small, made-answered, probed_small, probed_answered, asked_small, asked-answered, refused-answered}
use Rattle.engine.proofs.step.Goals as goal

pub delta-requires : goal.delta-requires
delta-requires c = made_small c.requires.setting c.requires.ready (recolour_tries c.in-Recolour.is) c.make-made.ensures

pub returns-then-make : goal.returns-then-make
returns-then-make c = record { remembered = remembered_recolour (recolour_finds c.requires.setting c.requires.ready c.requires.within c.in-Recolour.is) c.in-Recolour.is c.if-make.true c.requires.remembered c.requires.clock_bound c.raise.ensures; answered = made-answered c.requires.setting c.requires.ready (recolour_tries c.in-Recolour.is) c.make-made.ensures c.if-make.true c.delta.ensures }

pub delta-requires-else-make : goal.delta-requires-else-make
delta-requires-else-make c = probed_small c.requires.setting c.requires.ready (recolour_tries c.in-Recolour.is) c.probe-total.ensures.r_value

pub returns-else-make : goal.returns-else-make
returns-else-make c = record { remembered = remembered_recolour_probed c.probe-total.ensures.remembered c.requires.clock_bound c.in-Recolour.is c.if-make.false; answered = probed_answered c.requires.setting c.requires.ready (recolour_tries c.in-Recolour.is) c.probe-total.ensures.r_value c.if-make.false (ready_left c.requires.setting.limits c.requires.ready c.probe-total.ensures.colouring_after) c.delta-else-make.ensures }

pub delta-requires-then-make-2 : goal.delta-requires-then-make-2
delta-requires-then-make-2 c = made_small c.requires.setting c.requires.ready (exchange_tries c.in-Exchange.is) c.make-made-then-make-2.ensures

pub returns-then-make-2 : goal.returns-then-make-2
returns-then-make-2 c = record { remembered = remembered_exchange (exchange_finds c.requires.setting c.requires.ready c.requires.within c.in-Exchange.is) c.in-Exchange.is c.if-make-2.true c.requires.remembered c.requires.clock_bound c.raise-then-make-2.ensures; answered = made-answered c.requires.setting c.requires.ready (exchange_tries c.in-Exchange.is) c.make-made-then-make-2.ensures c.if-make-2.true c.delta-then-make-2.ensures }

pub delta-requires-else-make-2 : goal.delta-requires-else-make-2
delta-requires-else-make-2 c = probed_small c.requires.setting c.requires.ready (exchange_tries c.in-Exchange.is) c.probe-total-else-make-2.ensures.r_value

pub returns-else-make-2 : goal.returns-else-make-2
returns-else-make-2 c = record { remembered = remembered_exchange_probed c.probe-total-else-make-2.ensures.remembered c.requires.clock_bound c.in-Exchange.is c.if-make-2.false; answered = probed_answered c.requires.setting c.requires.ready (exchange_tries c.in-Exchange.is) c.probe-total-else-make-2.ensures.r_value c.if-make-2.false (ready_left c.requires.setting.limits c.requires.ready c.probe-total-else-make-2.ensures.colouring_after) c.delta-else-make-2.ensures }

pub delta-requires-in-Ask : goal.delta-requires-in-Ask
delta-requires-in-Ask c = asked_small c.requires.setting c.requires.ready c.in-Ask.is c.region_violation-violation.ensures

pub returns-in-Ask : goal.returns-in-Ask
returns-in-Ask c = record { remembered = remembered_ask c.requires.remembered c.requires.clock_bound c.in-Ask.is; answered = asked-answered c.requires.setting c.requires.ready c.in-Ask.is c.region_violation-violation.ensures c.delta-in-Ask.ensures }

pub returns-in-Refused : goal.returns-in-Refused
returns-in-Refused c = record { remembered = remembered_refused c.requires.remembered c.requires.clock_bound c.in-Refused.is; answered = refused-answered c.requires.setting c.requires.ready c.in-Refused.is }
