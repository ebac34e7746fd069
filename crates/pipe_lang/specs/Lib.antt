pub mod Round
pub use Rattle.pipe_program.specs.Plans
pub use Rattle.pipe_program.specs.Reading
pub use Rattle.pipe_print.specs.Lines
pub use Rattle.pipe_steps.specs.Said
pub use Rattle.pipe_expr.specs.Grammar
