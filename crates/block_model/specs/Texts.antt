-- Fields and rows in UTF-8.
use Rattle.std.specs.Prelude.{Bool, ◌&&◌}
use Rattle.std.specs.List.{list_all}
use Rattle.std.specs.Str.{is_utf8}
use Rattle.log_model.specs.Field.{Field}
use Rattle.log_model.specs.History.{Numbered}

abbrev pub is_text_field : Field → Bool
is_text_field field = is_utf8 field.0 && is_utf8 field.1

abbrev pub is_text_row : Numbered → Bool
is_text_row numbered = list_all is_text_field numbered.row.fields
