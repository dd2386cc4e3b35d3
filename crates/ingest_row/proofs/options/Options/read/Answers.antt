use Rattle.std.proofs.Common.{◌∙◌, sym}
use Rattle.ingest_row.proofs.Asked.{extras_named}
use Rattle.ingest_row.proofs.options.Options.read.Goals as goal

pub invariant_of-result : goal.invariant_of-result
invariant_of-result c = (
  extras_named _ c.in-Some.extra_fields (sym c.in_ok-extra_fields.ensures ∙ c.in-Some.is),
  λ short.
      sym (rw (c.as_slice-5.ensures, c.as_slice-6.ensures, c.as_slice-7.ensures)
      at c.names_are_short-are_short.ensures) ∙ short,
  rw (c.as_slice.ensures, c.as_slice-2.ensures, c.as_slice-3.ensures, c.as_slice-4.ensures)
      at c.in_ok-prepared.ensures,
)
