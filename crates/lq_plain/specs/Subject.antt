-- The value of what a filter is evaluated on.
use Rattle.lq_ast.specs.Subject.{Subject, record_subject, row_subject}
use Rattle.lq_plain.specs.declared.subject.Subject.{Subject as RustSubject}
use Rattle.lq_plain.specs.declared.subject.Subject.TheVariants.{Row, Record}

abbrev pub subject_of : RustSubject → Subject
subject_of (Row now row) = row_subject now row.now
subject_of (Record fields) = record_subject fields.now
