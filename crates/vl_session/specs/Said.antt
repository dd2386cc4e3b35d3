-- The reply to an insert, member by member.
use Rattle.std.specs.Prelude.{ℕ, List, [], ◌∷◌, ◌++◌, length, codes, decimal, flat_map}
use Rattle.json.specs.Print.{escape}
use Rattle.log_model.specs.Field.{Field}
use Rattle.ingest_row.specs.declared.body.LineFault.{LineFault}
use Rattle.vl_session.specs.Insert.{fault_fields, named_line}

-- the first member of an object, up to the end of its value
abbrev pub first_member : Field → List ℕ
first_member field = codes "{\"" ++ (escape field.0 ++ (codes "\":\"" ++ escape field.1))

-- the end of a value, and one more member up to the end of its own
abbrev pub later_member : Field → List ℕ
later_member field = codes "\",\"" ++ (escape field.0 ++ (codes "\":\"" ++ escape field.1))

-- after the counts of rows and their batch: the refused lines, and the end
abbrev pub refused_text : List LineFault → List ℕ
refused_text faults =
    flat_map later_member (fault_fields faults ++ (codes "refused", decimal (length faults)) ∷ []) ++ codes "\"}\n"

-- one more line is named
abbrev pub later_line : LineFault → List ℕ
later_line fault = codes ", " ++ escape (named_line fault)
