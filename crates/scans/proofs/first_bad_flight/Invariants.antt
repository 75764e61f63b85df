-- A scan over the flights, each cut from the visits that are left.
use Rattle.std.specs.Prelude.{length}
use Rattle.meaning.specs.Flights.{Cut}
use Rattle.scans.specs.Items.{flight_right}
use Rattle.scans.proofs.Scan.{Scan}
use Rattle.scans.proofs.first_bad_flight.Given as goal

abbrev pub invariant-loop-flight : goal.invariant-loop-flight
invariant-loop-flight l = Scan (length l.counts) (flight_right l.regions l.counts l.visits) l.flight × Cut l.counts l.visits l.flight l.at
