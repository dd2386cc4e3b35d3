-- The values of what the grammar of LogsQL spells. A text is the list of its bytes.
use Rattle.std.specs.Prelude.{ℕ, ◌-◌, ◌^◌, Bool, true, false, List, [], ◌∷◌, map, fold, bytes_eq, codes, ℤ, pos, neg_ℤ}
use Rattle.std.specs.Prelude.{◌+ℤ◌, ◌-ℤ◌, Option, Some, None, Result, Ok, Err, if◌then◌else◌}
use Rattle.std.specs.Str.{str_to_ascii_lowercase}
use Rattle.vl_row.specs.Field.{is_empty}
use Rattle.vl_row.specs.Order.{number_of}
use Rattle.lq_ast.specs.Condition.{Condition, Conditions, conditions, Test, Tests}
use Rattle.lq_ast.specs.Condition as is
use Rattle.lq_ast.specs.Making.{Expression, whole, value_of, two}
use Rattle.lq_ast.specs.PatternText.{Pieces, pattern_of}
use Rattle.lq_ast.specs.declared.row_pipe.Op.{Op}

-- why a value is refused
pub data Reason : Type 0 where
  bad_number : Reason
  bad_time : Reason
  bad_duration : Reason
  bad_pattern : Reason

abbrev pub Bytes : Type 0
Bytes = List ℕ

-- what a filter says under the field in force, if one is
abbrev pub Filtering : Type 0
Filtering = Option Bytes → Condition

-- ---- fields

-- a name that is empty means the message
abbrev pub field_named : Bytes → Bytes
field_named name = if is_empty name then codes "_msg" else name

abbrev pub field_in : Option Bytes → Bytes
field_in None = codes "_msg"
field_in (Some field) = field

abbrev pub named : Bytes → Filtering → Filtering
named name filter field = filter (Some (field_named name))

-- ---- conditions

abbrev pub everything : Filtering
everything None = is.always
everything (Some field) = is.some_value field

abbrev pub phrased : Bytes → Filtering
phrased text field = if is_empty text then is.no_value (field_in field) else is.phrase (field_in field) text

abbrev pub prefixed : Bytes → Filtering
prefixed text field = is.prefix (field_in field) text

abbrev pub exactly : Bytes → Filtering
exactly text field = is.exact (field_in field) text

abbrev pub exactly_prefixed : Bytes → Filtering
exactly_prefixed text field = is.exact_prefix (field_in field) text

abbrev pub matching : Bytes → Filtering
matching pattern field = is.pattern (field_in field) pattern

abbrev pub one_of_texts : List Bytes → Filtering
one_of_texts texts field = is.one_of (field_in field) texts

abbrev pub in_any_case : Bytes → Filtering
in_any_case text field = is.folded (field_in field) text

abbrev pub in_sequence : List Bytes → Filtering
in_sequence texts field = is.sequence (field_in field) texts

abbrev pub of_length : ℕ → ℕ → Filtering
of_length low high field = is.length_in (field_in field) low high

abbrev pub text_between : Bytes → Bytes → Filtering
text_between low high field = is.text_in (field_in field) low high

abbrev pub number_between : ℤ → ℤ → Filtering
number_between low high field = is.number_in (field_in field) low high

abbrev pub denied : Filtering → Filtering
denied filter field = is.negated (filter field)

abbrev pub on_streams : List Tests → Filtering
on_streams groups field = is.selected groups

-- one filter is itself, and two or more are joined
abbrev pub joined : (Conditions → Condition) → Condition → List Condition → Condition
joined join first [] = first
joined join first (second ∷ others) = join (conditions (first ∷ second ∷ others))

abbrev pub of_list : (Conditions → Condition) → List Condition → Condition
of_list join [] = join (conditions [])
of_list join (first ∷ others) = joined join first others

abbrev pub all_hold : Filtering → List Filtering → Filtering
all_hold first others field = joined is.all_of (first field) (map (λ filter. filter field) others)

abbrev pub any_holds : Filtering → List Filtering → Filtering
any_holds first others field = joined is.any_of (first field) (map (λ filter. filter field) others)

-- ---- numbers

-- the least and the greatest end
abbrev pub least : ℤ
least = neg_ℤ (pos (2 ^ 127))

abbrev pub greatest : ℤ
greatest = pos (2 ^ 127 - 1)

abbrev pub from_option : {A : Type 0} → Reason → Option A → Result A Reason
from_option reason None = Err reason
from_option reason (Some x) = Ok x

abbrev pub above : ℤ → Filtering
above z = number_between (z +ℤ pos 1) greatest

abbrev pub at_least : ℤ → Filtering
at_least z = number_between z greatest

abbrev pub below : ℤ → Filtering
below z = number_between least (z -ℤ pos 1)

abbrev pub at_most : ℤ → Filtering
at_most z = number_between least z

abbrev pub number_value : Bytes → Result ℤ Reason
number_value text = from_option bad_number (number_of text)

abbrev pub not_negative : ℤ → Result ℕ Reason
not_negative (pos n) = Ok n
not_negative z = Err bad_number

abbrev pub size_from : Option ℤ → Result ℕ Reason
size_from None = Err bad_number
size_from (Some z) = not_negative z

abbrev pub size_value : Bytes → Result ℕ Reason
size_value text = size_from (number_of text)

-- `inf` has no end
abbrev pub high_size_value : Bytes → Result ℕ Reason
high_size_value text = if bytes_eq text (codes "inf") then Ok (2 ^ 64 - 1) else size_value text

-- an end of a range: a number, or without end
pub data End : Type 0 where
  number : ℤ → End
  infinite : End
  minus_infinite : End

-- the least and the greatest number, where a flag says that the end is included
abbrev pub low_of : Bool → End → ℤ
low_of true (number z) = z
low_of false (number z) = z +ℤ pos 1
low_of included infinite = greatest
low_of included minus_infinite = least

abbrev pub high_of : Bool → End → ℤ
high_of true (number z) = z
high_of false (number z) = z -ℤ pos 1
high_of included infinite = greatest
high_of included minus_infinite = least

abbrev pub in_range : Bool → End → End → Bool → Filtering
in_range low_included low high high_included = number_between (low_of low_included low) (high_of high_included high)

-- `inf` and `-inf` in any case, or a number
abbrev pub number_end : Option ℤ → Result End Reason
number_end None = Err bad_number
number_end (Some z) = Ok (number z)

abbrev pub end_value : Bytes → Result End Reason
end_value text =
    if bytes_eq (str_to_ascii_lowercase text) (codes "inf") then Ok infinite
    else (if bytes_eq (str_to_ascii_lowercase text) (codes "-inf") then Ok minus_infinite
    else number_end (number_of text))

-- ---- patterns and expressions

abbrev pub extract_pattern : Bytes → Result Pieces Reason
extract_pattern text = from_option bad_pattern (pattern_of true text)

abbrev pub format_pattern : Bytes → Result Pieces Reason
format_pattern text = from_option bad_pattern (pattern_of false text)

abbrev pub field_value : Bytes → Expression
field_value name = value_of (field_named name)

abbrev pub number_or_field : Option ℤ → Bytes → Expression
number_or_field None text = field_value text
number_or_field (Some n) text = whole n

-- A word that is a number is this number, and any other one names a field.
abbrev pub bare_value : Bytes → Expression
bare_value text = number_or_field (number_of text) text

-- an operation, and its right side
abbrev pub Operand : Type 0
Operand = Op × Expression

-- Operations of one precedence group to the left.
abbrev pub operated : Expression → List Operand → Expression
operated first others = fold (λ left next. two next.0 left next.1) first others
