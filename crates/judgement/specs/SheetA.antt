-- What the sheet of some contents comes to; sheet A's five lines, from its bytes alone.
-- Assumes nothing.
use Rattle.std.specs.Prelude.{◌≡◌, refl, [], ◌∷◌}
use Rattle.terms.specs.Distance.{stands, distance}
use Rattle.meaning.specs.Plan.{edges_of, visits_of, flights_of, constraints_of}
use Rattle.meaning.specs.Joined.{take_in, take_every, labels}
use Rattle.meaning.specs.Kinds.{ncc, ncc_all, load, whole, outside_area, border, counts, loads, deviation, connected, bounded, dwelling, by_kind, total}
use Rattle.meaning.specs.Kinds as kinds
use Rattle.meaning.specs.Stretches.{before, stretches}
use Rattle.meaning.specs.Moves.{verdict, verdicts_of}
use Rattle.scans.specs.Items.{off_from, edge_right, visits_right, constraint_right}
use Rattle.refusals.specs.Table.{none, refusal, plan_table, plan_refusal}
use Rattle.report.specs.Decimal.{decimal, spelled}
use Rattle.report.specs.Text.{ascii, number, line, lines, total_line, verdict_text, refused_text}
use Rattle.form.specs.declared.Form.{Form}
use Rattle.form.specs.declared.Form.TheVariants.{First, Second}
use Rattle.form.specs.Form.{Contents, carried, form_in, sheet_of}
use Rattle.form.specs.Refusals.{open_table, contents_refusal, sheet_refusal}
use Rattle.form.proofs.AcceptedLaws.{opened_form}
use Rattle.form.proofs.RoundTrip.{accepted-written, contents_again}
use Rattle.form.proofs.SheetA.{sheet_a, flown_a}
use Rattle.judging.specs.Judgement.{verdicts_held, total_held, judged, refused_for, judgement}
use Rattle.judgement.specs.Promise.{verdict_at, holds, violation, text_of}

-- the sheet of contents that are not refused comes to the verdicts on them and their total
pub judgement-written : (f : Form) (k : Contents) → carried f k ≡ k → (contents_refusal f k).code ≡ 0
    → judgement (sheet_of f k) ≡ record { refusal = none; constraints = k.constraints; verdicts = verdicts_held k; total = total_held k }
unfolding judgement judged
judgement-written f k whole z =
    let r = contents_again f k whole z in
    rw (opened_form f (sheet_of f k) (accepted-written f k whole z).opened, r.1, r.0)

-- sheet A's does, as a first sheet
pub first_written : judgement (sheet_of First sheet_a) ≡ record { refusal = none; constraints = sheet_a.constraints; verdicts = verdicts_held sheet_a; total = total_held sheet_a }
unfolding sheet_a refusal plan_refusal plan_table off_from edge_right constraint_right flights_of
first_written = judgement-written First sheet_a refl refl

-- and with outside areas and flights, as a second
pub second_written : judgement (sheet_of Second flown_a) ≡ record { refusal = none; constraints = flown_a.constraints; verdicts = verdicts_held flown_a; total = total_held flown_a }
unfolding sheet_a flown_a refusal plan_refusal plan_table off_from edge_right visits_right constraint_right visits_of flights_of
second_written = judgement-written Second flown_a refl refl

-- whether its last constraint holds, the violation, and that of the places on both sides of the list
last-verdict : holds (sheet_of First sheet_a) 4 ∷ violation (sheet_of First sheet_a) 4 ∷ violation (sheet_of First sheet_a) 0 ∷ violation (sheet_of First sheet_a) 5 ∷ [] ≡ 0 ∷ 5 ∷ 0 ∷ 0 ∷ []
unfolding sheet_a edges_of constraints_of stands distance take_in take_every labels ncc ncc_all load whole outside_area border counts loads deviation connected bounded by_kind kinds.violation kinds.holds total verdict verdicts_of verdict_at
last-verdict = rw first_written

-- document 01's five lines
five_lines : text_of (sheet_of First sheet_a) ≡ ascii "1 1 1 0\n2 2 1 0\n3 3 1 0\n4 4 0 5\ntotal 15\n"
unfolding sheet_a edges_of constraints_of stands distance take_in take_every labels ncc ncc_all load whole outside_area border counts loads deviation connected bounded by_kind kinds.violation kinds.holds total verdict verdicts_of decimal spelled number line lines total_line verdict_text text_of
five_lines = rw first_written

-- and six where the second sheet has outside areas, a flight and a constraint on its stretches
six_lines : text_of (sheet_of Second flown_a) ≡ ascii "1 1 1 0\n2 2 0 8\n3 3 1 0\n4 4 0 5\n5 5 0 15\ntotal 53\n"
unfolding sheet_a flown_a edges_of visits_of flights_of constraints_of stands distance take_in take_every labels before stretches ncc ncc_all load whole outside_area border counts loads deviation connected bounded dwelling by_kind kinds.violation kinds.holds total verdict verdicts_of decimal spelled number line lines total_line verdict_text text_of
six_lines = rw second_written

-- no bytes are no sheet
no_bytes : text_of [] ≡ ascii "refused 31 0\n"
unfolding form_in open_table sheet_refusal refusal refused_for judgement decimal spelled number refused_text text_of
no_bytes = refl
