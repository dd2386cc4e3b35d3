-- What a filter is asked of, as conditions see it.
use Rattle.log_model.specs.Row.{Row as Event}
use Rattle.lq_ast.specs.Subject.{Subject, record_subject, row_subject}
use Rattle.lq_filter.specs.declared.subject.Subject.{Subject as Asked}
use Rattle.lq_filter.specs.declared.subject.Subject.TheVariants.{Row, Record}

-- what is asked, where `event` is the row that a lent one stands for
abbrev pub subject_of : {R : Type 0} → (R → Event) → Asked R → Subject
subject_of event (Row now row) = row_subject now (event row.now)
subject_of event (Record fields) = record_subject fields.now
