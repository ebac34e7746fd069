use Rattle.pipe_program.proofs.Counting.{few_lines}
use Rattle.pipe_program.proofs.Numbering.{numbered_same, one_numbering}
use Rattle.pipe_program.proofs.Settled.{Laws, settled, unique}
use Rattle.pipe_program.proofs.Soundness.{sound}
use Rattle.pipe_program.proofs.laws.text_laws.Goals as goal

pub returns-clause-settled : goal.returns-clause-settled
returns-clause-settled c = settled (record {
  line_settled = c.line_laws.ensures.settled;
  line_unique = c.line_laws.ensures.unique;
  place_settled = c.place_laws.ensures.settled;
  place_unique = c.place_laws.ensures.unique;
})

pub returns-clause-unique : goal.returns-clause-unique
returns-clause-unique c = unique (record {
  line_settled = c.line_laws.ensures.settled;
  line_unique = c.line_laws.ensures.unique;
  place_settled = c.place_laws.ensures.settled;
  place_unique = c.place_laws.ensures.unique;
})

pub returns-clause-few : goal.returns-clause-few
returns-clause-few c = few_lines

pub returns-clause-numbered : goal.returns-clause-numbered
returns-clause-numbered c = numbered_same (record {
  line_settled = c.line_laws.ensures.settled;
  line_unique = c.line_laws.ensures.unique;
  place_settled = c.place_laws.ensures.settled;
  place_unique = c.place_laws.ensures.unique;
})

pub returns-clause-sound : goal.returns-clause-sound
returns-clause-sound c = sound

pub returns-clause-one_numbering : goal.returns-clause-one_numbering
returns-clause-one_numbering c = one_numbering (record {
  line_settled = c.line_laws.ensures.settled;
  line_unique = c.line_laws.ensures.unique;
  place_settled = c.place_laws.ensures.settled;
  place_unique = c.place_laws.ensures.unique;
})
