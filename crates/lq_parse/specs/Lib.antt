pub mod Ends
pub mod Outcome
pub use Rattle.lq_grammar.specs.Faults
pub use Rattle.lq_grammar.specs.Query
pub use Rattle.lq_grammar.specs.declared.fault.QueryFault
