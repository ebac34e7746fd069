use Rattle.pipe_run.proofs.lines.write_fault.Goals as goal

pub returns : goal.returns
returns g c = rw (c.as_bytes.ensures.value, c.format.ensures.text, c.as_bytes-2.ensures.value, c.format-2.ensures.text, c.fault_word.ensures) at c.write_pieces.ensures
