use Rattle.pipe_run.proofs.run.write_text.Goals as goal
