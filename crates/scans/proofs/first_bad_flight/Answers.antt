-- A scan over the flights, each cut from the visits that are left.
use Rattle.std.proofs.Common.{◌∙◌, ap}
use Rattle.std.specs.Prelude.{not}
use Rattle.meaning.specs.Flights.{cut_flight, cut_turn}
use Rattle.scans.specs.Items.{visits_right}
use Rattle.scans.proofs.Scan.{scan_next, scan_here, scan_end}
use Rattle.scans.proofs.first_bad_flight.Goals as goal

pub returns-then-not-flight_right : goal.returns-then-not-flight_right
returns-then-not-flight_right c = scan_here _ _ _ _ (c.flight_right.ensures ∙ ap (visits_right _) (cut_flight c.loop-flight.invariant.1 c.loop-flight-test.true)) (ap not c.if-not-flight_right.true) c.loop-flight-test.true c.loop-flight.invariant.0

pub loop-flight-preserved : goal.loop-flight-preserved
loop-flight-preserved c = (
  scan_next _ _ _ _ (c.flight_right.ensures ∙ ap (visits_right _) (cut_flight c.loop-flight.invariant.1 c.loop-flight-test.true)) (ap not c.if-not-flight_right.false) c.loop-flight-test.true c.loop-flight.invariant.0,
  cut_turn c.loop-flight.invariant.1 c.loop-flight-test.true,
)

pub returns : goal.returns
returns c = scan_end _ _ _ c.loop-flight-test.false c.loop-flight.invariant.0
