-- The grammar of LogsQL ("Query syntax"), a rule for each line of its EBNF, which stands above the rule.
-- Words in capitals are Bare tokens in any case of their letters, and `^` says that a token is glued to the one before
-- it.
use Rattle.std.specs.Prelude.{ℕ, Bool, true, false, List, [], ◌∷◌, ◌++◌, flat_map, codes, ℤ, pos}
use Rattle.std.specs.Prelude.{Option, Some, None}
use Rattle.grammar.specs.Rule.{Class, Rule, empty, one, unless, both, either, many, checked, deeper, Grammar}
use Rattle.lq_ast.specs.declared.pipe.Call.{Call}
use Rattle.lq_ast.specs.declared.pipe.Call.TheVariants as is_call
use Rattle.lq_ast.specs.declared.select.How.{How}
use Rattle.lq_ast.specs.declared.select.How.TheVariants.{Is, IsNot, Matches, MatchesNot}
use Rattle.lq_ast.specs.declared.row_pipe.Op.{Op}
use Rattle.lq_ast.specs.declared.row_pipe.Op.TheVariants as is_op
use Rattle.lq_ast.specs.Condition.{Condition, Test, Tests}
use Rattle.lq_ast.specs.Making.{Expression, MathItem, whole}
use Rattle.lq_ast.specs.Making as making
use Rattle.lq_ast.specs.PatternText.{Pieces}
use Rattle.lq_ast.specs.Question.{Question}
use Rattle.lq_ast.specs.Stage.{GroupBy, NamePair, SortBy, Stage, Statistic}
use Rattle.lq_ast.specs.Stage as is
use Rattle.lq_grammar.specs.declared.scope.Scope.{Scope}
use Rattle.lq_grammar.specs.declared.scope.Scope.TheVariants.{Rows, Records}
use Rattle.lq_grammar.specs.declared.role.Role.{Role}
use Rattle.lq_grammar.specs.declared.role.Role.TheVariants.{And, Or, Asc, Desc, As, Div, Mod, If, Fields, Delete}
use Rattle.lq_grammar.specs.declared.role.Role.TheVariants.{Rename, Copy, Limit, Head, Offset, Skip, Sort, Uniq, Stats}
use Rattle.lq_grammar.specs.declared.role.Role.TheVariants.{Filter, Top, Extract, Format, Len, Math, By, From, With}
use Rattle.lq_grammar.specs.declared.role.Role.TheVariants.{Hits, Count, CountEmpty, CountUniq, Sum, Min, Max}
use Rattle.lq_grammar.specs.declared.role.Role.TheVariants.{UniqValues, In, I, Seq, LenRange, StringRange, Range, Time}
use Rattle.lq_grammar.specs.declared.role.Role.TheVariants.{Stream, QuotedTime, Quoted, Bar, Open, Close, SquareOpen}
use Rattle.lq_grammar.specs.declared.role.Role.TheVariants.{SquareClose, CurlyOpen, CurlyClose, Comma, Colon, Equals}
use Rattle.lq_grammar.specs.declared.role.Role.TheVariants.{Bang, Tilde, Star, Less, Greater, Minus, Plus}
use Rattle.lq_grammar.specs.Roles.{glued, any, bares, quoted, words, texts as text_roles, plain_words, negations}
use Rattle.lq_grammar.specs.Roles.{run_parts, list_names, value_names, key_names, other_bares, set_names, atom_bares}
use Rattle.lq_grammar.specs.Values.{Bytes, Reason, Filtering, End as RangeEnd, field_named, named, everything, phrased}
use Rattle.lq_grammar.specs.Values.{prefixed, exactly, exactly_prefixed, matching, one_of_texts, in_any_case}
use Rattle.lq_grammar.specs.Values.{in_sequence, of_length, text_between, denied, on_streams, all_hold, any_holds}
use Rattle.lq_grammar.specs.Values.{number_value, size_value, high_size_value, end_value, in_range}
use Rattle.lq_grammar.specs.Values.{above, at_least, below, at_most}
use Rattle.lq_grammar.specs.Values.{extract_pattern, format_pattern, Operand, bare_value, field_value, operated}
use Rattle.lq_grammar.specs.Moments.{run_value, bound_value, in_interval}
use Rattle.lq_grammar.specs.Stages.{Calling, Cut, asked, by_value, distinct, grouped, ranked, sorted, statistic_of}
use Rattle.lq_grammar.specs.Stages.{step_value}

-- ---- words for rules

-- the rules that lead back to themselves: parentheses of filters, negations of a unary and of an inner filter, and
-- parentheses of expressions
pub data Name : Type 0 where
  group : Scope → Name
  negation : Scope → Name
  inner_negation : Scope → Name
  parenthesized : Name

-- what such a rule says: what a filter asks, or what an expression computes
pub data Value : Type 0 where
  filtered : Filtering → Value
  computed : Expression → Value

-- the filter, which is the value of each name but `parenthesized`
abbrev pub filter_of : Value → Filtering
filter_of (filtered filter) = filter
filter_of (computed expression) = everything

-- the expression, which is the value of `parenthesized`
abbrev pub expression_of : Value → Expression
expression_of (computed expression) = expression
expression_of (filtered filter) = whole (pos 0)

abbrev pub denied_of : Value → Filtering
denied_of value = denied (filter_of value)

abbrev pub Parse : Type 0 → Type 1
Parse A = Rule Bytes Reason Name Value A

infixr 15 ◌|||◌
abbrev pub ◌|||◌ : {A : Type 0} → Parse A → Parse A → Parse A
a ||| b = either a b

-- a token that only has to stand there
abbrev pub mark : Class → Parse (Unit {0})
mark class = one class (λ _. tt)

-- the text of a token
abbrev pub text : Class → Parse Bytes
text class = one class (λ t. t.content)

abbrev pub behind : {A : Type 0} → Class → Parse A → Parse A
behind class rule = both (λ _ x. x) (mark class) rule

abbrev pub closed : {A : Type 0} → Parse A → Class → Parse A
closed rule class = both (λ x _. x) rule (mark class)

-- a value, and what its end makes of it
abbrev pub ended : {A B : Type 0} → Parse A → Parse (A → B) → Parse B
ended {A} {B} rule end = both (λ (x : A) (f : A → B). f x) rule end

-- what a rule's value is made into
abbrev pub made : {A B : Type 0} → (A → B) → Parse A → Parse B
made {A} {B} f rule = both (λ (x : A) (_ : Unit {0}). f x) rule (empty tt)

-- "(" .. ")"
abbrev pub enclosed : {A : Type 0} → Parse A → Parse A
enclosed rule = behind (any (Open ∷ [])) (closed rule (any (Close ∷ [])))

-- a rule, and others of it after a token
abbrev pub others : {A : Type 0} → Role → Parse A → Parse (List A)
others role rule = many (λ xs. xs) (behind (any (role ∷ [])) rule)

abbrev pub listed : {A : Type 0} → Role → Parse A → Parse (List A)
listed role rule = both (λ x xs. x ∷ xs) rule (others role rule)

-- ---- arguments

-- name = Bare | Quoted         An empty one means _msg.
abbrev pub name : Parse Bytes
name = one (any words) (λ t. field_named t.content)

-- arg = "-" ^Bare | Bare | Quoted
unfoldable pub arg : Parse Bytes
arg = both (λ minus digits. minus ++ digits) (text (any (Minus ∷ []))) (text (glued bares)) ||| text (any words)

-- arg {"," arg}
unfoldable pub args : Parse (List Bytes)
args = listed Comma arg

-- [arg {"," arg}]
unfoldable pub texts : Parse (List Bytes)
texts = args ||| empty []

-- num = arg
unfoldable pub num : Parse ℤ
num = checked number_value arg

-- an end of RANGE: a num, or inf or -inf
unfoldable pub end : Parse RangeEnd
end = checked end_value arg

-- size = arg
unfoldable pub size : Parse ℕ
size = checked size_value arg

-- the second size of LEN_RANGE
unfoldable pub high_size : Parse ℕ
high_size = checked high_size_value arg

-- ---- leaves: what may stand after a word

-- [^"*"], and no call
unfoldable pub bare_end : Parse (Bytes → Filtering)
bare_end = one (glued (Star ∷ [])) (λ _. prefixed) ||| unless (glued (Open ∷ Star ∷ [])) phrased

-- [^"*"]
unfoldable pub quoted_end : Parse (Bytes → Filtering)
quoted_end = one (glued (Star ∷ [])) (λ _. prefixed) ||| unless (glued (Star ∷ [])) phrased

-- a call after its word
abbrev pub called : Parse Filtering → Parse (Bytes → Filtering)
called inside = both (λ _ filter word. filter) (mark (glued (Open ∷ []))) (closed inside (any (Close ∷ [])))

-- IN ^"(" [arg {"," arg}] ")"
unfoldable pub in_end : Parse (Bytes → Filtering)
in_end = called (made one_of_texts texts) ||| bare_end

-- I ^"(" arg ")"
unfoldable pub i_end : Parse (Bytes → Filtering)
i_end = called (made in_any_case arg) ||| bare_end

-- SEQ ^"(" arg {"," arg} ")"
unfoldable pub seq_end : Parse (Bytes → Filtering)
seq_end = called (made in_sequence args) ||| bare_end

-- LEN_RANGE ^"(" size "," size ")"
unfoldable pub len_range_end : Parse (Bytes → Filtering)
len_range_end = called (both of_length size (behind (any (Comma ∷ [])) high_size)) ||| bare_end

-- STRING_RANGE ^"(" arg "," arg ")"
unfoldable pub string_range_end : Parse (Bytes → Filtering)
string_range_end = called (both text_between arg (behind (any (Comma ∷ [])) arg)) ||| bare_end

-- ")" or "]"                    The value says whether the end before it is included.
unfoldable pub closing : Parse Bool
closing = one (any (SquareClose ∷ [])) (λ _. true) ||| one (any (Close ∷ [])) (λ _. false)

-- num (")" or "]")
unfoldable pub last_end : Parse (RangeEnd × Bool)
last_end = both (λ high included. (high, included)) end closing

-- num "," num (")" or "]")      The value is made of whether the first end is included.
unfoldable pub ends : Parse (Bool → Filtering)
ends = both (λ low last included. in_range included low last.0 last.1) end (behind (any (Comma ∷ [])) last_end)

-- RANGE ^("(" or "[") num "," num (")" or "]")
unfoldable pub range_end : Parse (Bytes → Filtering)
range_end =
    both (λ _ filter word. filter false) (mark (glued (Open ∷ []))) ends
    ||| both (λ _ filter word. filter true) (mark (glued (SquareOpen ∷ []))) ends
    ||| bare_end

-- ---- leaves that begin with a mark

-- "=" arg [^"*"]
unfoldable pub exact : Parse Filtering
exact =
    behind (any (Equals ∷ [])) (ended arg (one (glued (Star ∷ [])) (λ _. exactly_prefixed)
    ||| unless (glued (Star ∷ [])) exactly))

-- "~" text                      text = Bare | Quoted
unfoldable pub regex : Parse Filtering
regex = behind (any (Tilde ∷ [])) (made matching (text (any text_roles)))

-- ">" [^"="] num
unfoldable pub greater : Parse Filtering
greater =
    behind (any (Greater ∷ [])) (both (λ _ number. at_least number) (mark (glued (Equals ∷ []))) num
    ||| made above num)

-- "<" [^"="] num
unfoldable pub less : Parse Filtering
less = behind (any (Less ∷ [])) (both (λ _ number. at_most number) (mark (glued (Equals ∷ []))) num ||| made below num)

-- "*", with no glued word after it
unfoldable pub star : Parse Filtering
star = behind (any (Star ∷ [])) (unless (glued text_roles) everything)

unfoldable pub mark_leaf : Parse Filtering
mark_leaf = exact ||| regex ||| greater ||| less ||| star

-- A word, and what its end makes of it. A function says what else may stand after the word.
abbrev pub End : Type 1
End = Parse (Bytes → Filtering) → Parse (Bytes → Filtering)

unfoldable pub word_led : End → Parse Filtering
word_led end =
    ended (text (any plain_words)) (end bare_end) ||| ended (text (any (Quoted ∷ []))) (end quoted_end) ||| mark_leaf

unfoldable pub range_led : End → Parse Filtering
range_led end =
    ended (text (any (LenRange ∷ []))) (end len_range_end)
    ||| ended (text (any (StringRange ∷ []))) (end string_range_end)
    ||| ended (text (any (Range ∷ []))) (end range_end)
    ||| word_led end

unfoldable pub led : End → Parse Filtering
led end =
    ended (text (any (In ∷ []))) (end in_end)
    ||| ended (text (any (I ∷ []))) (end i_end)
    ||| ended (text (any (Seq ∷ []))) (end seq_end)
    ||| range_led end

abbrev pub alone : End
alone end = end

-- leaf = "*" | word [^"*"] | "=" arg [^"*"] | "~" text | IN .. | I .. | SEQ .. | LEN_RANGE .. | STRING_RANGE ..
--      | RANGE .. | ">" [^"="] num | "<" [^"="] num
unfoldable pub leaf : Parse Filtering
leaf =
    ended (text (any (Time ∷ Stream ∷ []))) bare_end
    ||| ended (text (any (QuotedTime ∷ []))) quoted_end
    ||| led alone

-- ---- streams and times

-- "=" | "!" ^"=" | "=" ^"~" | "!" ^"~"
unfoldable pub how : Parse How
how =
    behind (any (Equals ∷ [])) (one (glued (Tilde ∷ [])) (λ _. Matches) ||| empty Is)
    ||| behind (any (Bang ∷ [])) (one (glued (Tilde ∷ [])) (λ _. MatchesNot)
    ||| one (glued (Equals ∷ [])) (λ _. IsNot))

-- label = name ("=" | "!" ^"=" | "=" ^"~" | "!" ^"~") arg
unfoldable pub label : Parse Test
label = ended name (both (λ how text name. (name, how, text)) how arg)

-- group = label { "," label }
unfoldable pub labels : Parse Tests
labels = listed Comma label

-- group { OR group }
unfoldable pub groups : Parse (List Tests)
groups = listed Or labels

-- [group { OR group }]
unfoldable pub optional_groups : Parse (List Tests)
optional_groups = groups ||| empty []

-- selector = "{" [group { OR group }] "}"
unfoldable pub selector : Parse Filtering
selector = behind (any (CurlyOpen ∷ [])) (closed (made on_streams optional_groups) (any (CurlyClose ∷ [])))

-- {^Bare | ^":" | ^"-" | ^"+"}, as long as it can be
unfoldable pub run_rest : Parse Bytes
run_rest =
    both (λ parts (_ : Unit {0}). flat_map (λ part. part) parts) (many (λ parts. parts) (text (glued run_parts)))
    (unless (glued run_parts) tt)

-- run = Quoted | Bare {^Bare | ^":" | ^"-" | ^"+"}
unfoldable pub run : Parse Bytes
run = text (any quoted) ||| both (λ bare rest. bare ++ rest) (text (any bares)) run_rest

-- a run inside brackets, which is not a duration
unfoldable pub bound : Parse (ℤ × ℤ)
bound = checked bound_value run

-- a run by itself
unfoldable pub lone_run : Parse Condition
lone_run = checked run_value run

-- run ("]" or ")")
unfoldable pub last_bound : Parse ((ℤ × ℤ) × Bool)
last_bound = both (λ span included. (span, included)) bound closing

-- run "," run ("]" or ")")      The value is made of whether the first end is included.
unfoldable pub interval : Parse (Bool → Condition)
interval =
    both (λ from last included. in_interval included from last.0 last.1) bound (behind (any (Comma ∷ [])) last_bound)

-- time = run | ("[" or "(") run "," run ("]" or ")")
unfoldable pub time : Parse Condition
time =
    both (λ _ filter. filter true) (mark (any (SquareOpen ∷ []))) interval
    ||| both (λ _ filter. filter false) (mark (any (Open ∷ []))) interval
    ||| lone_run

-- ---- filters

-- inner = neg inner | "(" or ")" | leaf
unfoldable pub inner : Scope → Parse Filtering
inner scope = deeper (inner_negation scope) denied_of ||| deeper (group scope) filter_of ||| leaf

-- ":" inner, or what else may stand after a word
abbrev pub colon : Scope → End
colon scope end = both (λ _ filter name. named name filter) (mark (any (Colon ∷ []))) (inner scope) ||| end

abbrev pub always_so : Condition → Bytes → Filtering
always_so condition word field = condition

-- "_time" ":" time
unfoldable pub time_end : End
time_end end = both (λ _ condition. always_so condition) (mark (any (Colon ∷ []))) time ||| end

-- selector, or an inner filter of the field
unfoldable pub stream_value : Parse (Bytes → Filtering)
stream_value = made (λ filter word. filter) selector ||| made (λ filter name. named name filter) (inner Rows)

-- "_stream" ":" selector
unfoldable pub stream_end : Parse (Bytes → Filtering)
stream_end = both (λ _ filter. filter) (mark (any (Colon ∷ []))) stream_value ||| bare_end

-- name ":" inner | leaf, but for the names `_time` and `_stream`
unfoldable pub word_unit : Scope → Parse Filtering
word_unit scope = led (colon scope)

-- selector | "_time" ":" time | "_stream" ":" selector | name ":" inner | leaf
unfoldable pub row_unit : Parse Filtering
row_unit =
    selector
    ||| ended (text (any (Time ∷ []))) (time_end bare_end)
    ||| ended (text (any (QuotedTime ∷ []))) (time_end quoted_end)
    ||| ended (text (any (Stream ∷ []))) stream_end
    ||| word_unit Rows

-- name ":" inner | leaf
-- In the `or` of FILTER, WHERE and IF neither selector nor `time` may stand, and `_time` is not a name.
unfoldable pub record_unit : Parse Filtering
record_unit =
    ended (text (any (Time ∷ []))) bare_end
    ||| ended (text (any (QuotedTime ∷ []))) quoted_end
    ||| ended (text (any (Stream ∷ []))) (colon Records bare_end)
    ||| word_unit Records

abbrev pub other_unit : Scope → Parse Filtering
other_unit Rows = row_unit
other_unit Records = record_unit

-- unit = "(" or ")" | selector | "_time" ":" time | "_stream" ":" selector | name ":" inner | leaf
unfoldable pub unit : Scope → Parse Filtering
unit scope = deeper (group scope) filter_of ||| other_unit scope

-- unary = neg unary | unit      neg = NOT | "!" | "-"
unfoldable pub unary : Scope → Parse Filtering
unary scope = deeper (negation scope) denied_of ||| unit scope

-- [AND] unary
unfoldable pub next_unary : Scope → Parse Filtering
next_unary scope = behind (any (And ∷ [])) (unary scope) ||| unary scope

-- and = unary { [AND] unary }
unfoldable pub and : Scope → Parse Filtering
and scope = both all_hold (unary scope) (many (λ filters. filters) (next_unary scope))

-- or = and { OR and }
unfoldable pub or : Scope → Parse Filtering
or scope = both any_holds (and scope) (others Or (and scope))

-- ---- names and numbers of pipes

-- names = name {"," name}
unfoldable pub names : Parse (List Bytes)
names = listed Comma name

-- "(" names ")"
unfoldable pub name_list : Parse (List Bytes)
name_list = enclosed names

-- A name in a list in which a Bare `asc`, `desc` and `as` are keywords.
abbrev pub list_name : Parse Bytes
list_name = one (any list_names) (λ t. field_named t.content)

-- [AS] name
unfoldable pub new_name : Parse Bytes
new_name = behind (any (As ∷ [])) list_name ||| list_name

-- name [AS] name
unfoldable pub pair : Parse NamePair
pair = both (λ from to. (from, to)) list_name new_name

-- pairs = name [AS] name {"," name [AS] name}
unfoldable pub pairs : Parse (List NamePair)
pairs = listed Comma pair

-- [BY], and then a rule
abbrev pub by : {A : Type 0} → Parse A → Parse A
by rule = behind (any (By ∷ [])) rule ||| rule

-- N = Bare
unfoldable pub count : Parse ℕ
count = checked size_value (text (any bares))

-- [LIMIT N]
unfoldable pub limit : Parse (Option ℕ)
limit = behind (any (Limit ∷ [])) (made Some count) ||| empty None

-- ---- SORT

-- [ASC|DESC]                    The value says whether it is DESC.
unfoldable pub direction : Parse Bool
direction = one (any (Desc ∷ [])) (λ _. true) ||| one (any (Asc ∷ [])) (λ _. false) ||| empty false

-- skey = name [ASC|DESC]
unfoldable pub sort_key : Parse SortBy
sort_key = both (λ name descending. (name, descending)) list_name direction

-- skey {"," skey}
unfoldable pub sort_keys : Parse (List SortBy)
sort_keys = listed Comma sort_key

-- [OFFSET N]
unfoldable pub offset : Parse ℕ
offset = behind (any (Offset ∷ [])) count ||| empty 0

-- {LIMIT N | OFFSET N}, each at most once
unfoldable pub cut : Parse Cut
cut =
    behind (any (Limit ∷ [])) (both (λ limit offset. (Some limit, offset)) count offset)
    ||| behind (any (Offset ∷ [])) (both (λ offset limit. (limit, offset)) count limit)
    ||| empty (None, 0)

-- [ASC|DESC] {LIMIT N | OFFSET N}
unfoldable pub sort_end : Parse (List SortBy → Stage)
sort_end = both (λ descending cut keys. sorted keys descending cut) direction cut

-- "(" skey {"," skey} ")" [ASC|DESC] {LIMIT N | OFFSET N}
unfoldable pub sort_rest : Parse Stage
sort_rest = ended (enclosed sort_keys) sort_end

-- [BY] "(" skey {"," skey} ")" [ASC|DESC] {LIMIT N | OFFSET N}
unfoldable pub sort_pipe : Parse Stage
sort_pipe = by sort_rest

-- ---- UNIQ and TOP

-- [WITH HITS]
unfoldable pub hits : Parse Bool
hits = behind (any (With ∷ [])) (one (any (Hits ∷ [])) (λ _. true)) ||| empty false

-- [WITH HITS] [LIMIT N]
unfoldable pub uniq_end : Parse (List Bytes → Stage)
uniq_end = both (λ hits limit names. distinct names hits limit) hits limit

-- "(" names ")" [WITH HITS] [LIMIT N]
unfoldable pub uniq_rest : Parse Stage
uniq_rest = ended name_list uniq_end

-- [BY] "(" names ")" [WITH HITS] [LIMIT N]
unfoldable pub uniq_pipe : Parse Stage
uniq_pipe = by uniq_rest

-- [BY], after N
unfoldable pub most_end : Parse Bool
most_end = one (any (By ∷ [])) (λ _. true) ||| unless (any (By ∷ [])) false

-- BY, or another one after it: then the first is an N, which is not a number.
unfoldable pub by_most : Parse ℕ
by_most = checked by_value (both (λ word again. (word, again)) (text (any (By ∷ []))) most_end)

-- N [BY]
unfoldable pub word_most : Parse ℕ
word_most = checked size_value (both (λ word by. word) (text (any other_bares)) most_end)

-- [N] [BY]
unfoldable pub most : Parse ℕ
most = by_most ||| word_most ||| empty 10

-- [N] [BY] "(" names ")"
unfoldable pub top_pipe : Parse Stage
top_pipe = both ranked most name_list

-- ---- STATS

-- A key's Bare.
unfoldable pub step : Parse ℤ
step = checked step_value (text (any bares))

-- [":" Bare]
unfoldable pub step_end : Parse (Option ℤ)
step_end = behind (any (Colon ∷ [])) (made Some step) ||| empty None

-- key = name | "_time" ":" Bare
unfoldable pub key : Parse GroupBy
key =
    both (λ name step. (name, step)) (text (any (Time ∷ []))) step_end
    ||| one (any key_names) (λ t. (field_named t.content, None))

-- key {"," key}
unfoldable pub keys : Parse (List GroupBy)
keys = listed Comma key

-- "(" key {"," key} ")"
unfoldable pub key_list : Parse (List GroupBy)
key_list = enclosed keys

-- [[BY] "(" key {"," key} ")"]
unfoldable pub groups_by : Parse (List GroupBy)
groups_by = behind (any (By ∷ [])) key_list ||| key_list ||| empty []

-- COUNT "(" ["*" | names] ")"
unfoldable pub counted : Parse (List Bytes)
counted = one (any (Star ∷ [])) (λ _. []) ||| names ||| empty []

-- SUM | MIN | MAX | UNIQ_VALUES
unfoldable pub name_call : Parse Call
name_call =
    one (any (Sum ∷ [])) (λ _. is_call.Sum)
    ||| one (any (Min ∷ [])) (λ _. is_call.Min)
    ||| one (any (Max ∷ [])) (λ _. is_call.Max)
    ||| one (any (UniqValues ∷ [])) (λ _. is_call.UniqValues)

-- (SUM | MIN | MAX | UNIQ_VALUES) "(" name ")"
unfoldable pub call_of_one : Parse Calling
call_of_one = both (λ call name. (call, name ∷ [])) name_call (enclosed name)

-- call = COUNT "(" ["*" | names] ")" | COUNT_EMPTY "(" names ")" | COUNT_UNIQ "(" names ")" | SUM "(" name ")"
--      | MIN "(" name ")" | MAX "(" name ")" | UNIQ_VALUES "(" name ")"
unfoldable pub call : Parse Calling
call =
    behind (any (Count ∷ [])) (made (λ names. (is_call.Count, names)) (enclosed counted))
    ||| behind (any (CountEmpty ∷ [])) (made (λ names. (is_call.CountEmpty, names)) name_list)
    ||| behind (any (CountUniq ∷ [])) (made (λ names. (is_call.CountUniq, names)) name_list)
    ||| call_of_one

-- [[AS] name], where a name after nothing is of these roles
unfoldable pub naming : List Role → Parse (Option Bytes)
naming roles =
    behind (any (As ∷ [])) (made Some list_name) ||| one (any roles) (λ t. Some (field_named t.content)) ||| empty None

-- "(" or ")" [[AS] name], after IF, or the word as a name
unfoldable pub if_end : Parse (Bytes → Option Condition × Option Bytes)
if_end =
    both (λ filter name word. (Some (filter None), name)) (deeper (group Records) filter_of)
    (naming list_names)
    ||| empty (λ word. (None, Some word))

-- [IF "(" or ")"] [[AS] name]
unfoldable pub func_end : Parse (Option Condition × Option Bytes)
func_end = ended (text (any (If ∷ []))) if_end ||| made (λ name. (None, name)) (naming value_names)

-- func = call [IF "(" or ")"] [[AS] name]
unfoldable pub func : Parse Statistic
func = both statistic_of call func_end

-- func {"," func}
unfoldable pub funcs : Parse (List Statistic)
funcs = listed Comma func

-- [[BY] "(" key {"," key} ")"] func {"," func}
unfoldable pub stats_pipe : Parse Stage
stats_pipe = both grouped groups_by funcs

-- ---- EXTRACT, FORMAT and LEN

-- A name where a Bare `as`, `div` and `mod` are keywords.
unfoldable pub set_name : Parse Bytes
set_name = one (any set_names) (λ t. field_named t.content)

-- [AS] name
unfoldable pub target : Parse Bytes
target = behind (any (As ∷ [])) set_name ||| set_name

-- [FROM name]
unfoldable pub source : Parse Bytes
source = behind (any (From ∷ [])) set_name ||| empty (codes "_msg")

-- Quoted, a pattern by which values are taken out
unfoldable pub extract_pieces : Parse Pieces
extract_pieces = checked extract_pattern (text (any quoted))

-- Quoted, a pattern by which a value is put together
unfoldable pub format_pieces : Parse Pieces
format_pieces = checked format_pattern (text (any quoted))

-- Quoted [FROM name]
unfoldable pub extract_pipe : Parse Stage
extract_pipe = both (λ pieces from. is.make (making.extract pieces from)) extract_pieces source

-- Quoted [AS] name
unfoldable pub format_pipe : Parse Stage
format_pipe = both (λ pieces name. is.make (making.format pieces name)) format_pieces target

-- "(" name ")" [AS] name
unfoldable pub len_pipe : Parse Stage
len_pipe = both (λ from name. is.make (making.len from name)) (enclosed set_name) target

-- ---- MATH

-- atom = Bare | Quoted | "(" expr ")"
unfoldable pub atom : Parse Expression
atom =
    one (any atom_bares) (λ t. bare_value t.content)
    ||| deeper parenthesized expression_of
    ||| one (any quoted) (λ t. field_value t.content)

-- "*" | DIV | MOD
unfoldable pub factor_op : Parse Op
factor_op =
    one (any (Star ∷ [])) (λ _. is_op.Mul)
    ||| one (any (Div ∷ [])) (λ _. is_op.Div)
    ||| one (any (Mod ∷ [])) (λ _. is_op.Mod)

-- ("*" | DIV | MOD) atom
unfoldable pub next_factor : Parse Operand
next_factor = both (λ op right. (op, right)) factor_op atom

-- term = atom { ("*" | DIV | MOD) atom }
unfoldable pub term : Parse Expression
term = both operated atom (many (λ factors. factors) next_factor)

-- "+" | "-"
unfoldable pub sum_op : Parse Op
sum_op = one (any (Plus ∷ [])) (λ _. is_op.Add) ||| one (any (Minus ∷ [])) (λ _. is_op.Sub)

-- ("+" | "-") term
unfoldable pub next_term : Parse Operand
next_term = both (λ op right. (op, right)) sum_op term

-- expr = term { ("+" | "-") term }
unfoldable pub expr : Parse Expression
expr = both operated term (many (λ terms. terms) next_term)

-- expr [AS] name
unfoldable pub math_item : Parse MathItem
math_item = both (λ expression name. (expression, name)) expr target

-- expr [AS] name {"," expr [AS] name}
unfoldable pub math_items : Parse (List MathItem)
math_items = listed Comma math_item

-- rowpipe = EXTRACT Quoted [FROM name] | FORMAT Quoted [AS] name | LEN "(" name ")" [AS] name
--         | MATH expr [AS] name {"," expr [AS] name}
unfoldable pub row_pipe : Parse Stage
row_pipe =
    behind (any (Extract ∷ [])) extract_pipe
    ||| behind (any (Format ∷ [])) format_pipe
    ||| behind (any (Len ∷ [])) len_pipe
    ||| behind (any (Math ∷ [])) (made (λ items. is.make (making.math items)) math_items)

-- ---- pipes

-- (SORT|ORDER) .. | UNIQ .. | STATS .. | TOP ..
unfoldable pub group_pipe : Parse Stage
group_pipe =
    behind (any (Sort ∷ [])) sort_pipe
    ||| behind (any (Uniq ∷ [])) uniq_pipe
    ||| behind (any (Stats ∷ [])) stats_pipe
    ||| behind (any (Top ∷ [])) top_pipe

-- (LIMIT|HEAD) N | (OFFSET|SKIP) N | (FILTER|WHERE) or | rowpipe
unfoldable pub record_pipe : Parse Stage
record_pipe =
    behind (any (Limit ∷ Head ∷ [])) (made is.limit count)
    ||| behind (any (Offset ∷ Skip ∷ [])) (made is.offset count)
    ||| behind (any (Filter ∷ [])) (made (λ filter. is.keep (filter None)) (or Records))
    ||| row_pipe
    ||| group_pipe

-- pipe = (FIELDS|KEEP) names | (DELETE|DEL|RM|DROP) names | (RENAME|MV) pairs | (COPY|CP) pairs | (LIMIT|HEAD) N
--      | (OFFSET|SKIP) N | (SORT|ORDER) .. | UNIQ .. | STATS .. | (FILTER|WHERE) or | TOP .. | rowpipe
unfoldable pub pipe : Parse Stage
pipe =
    behind (any (Fields ∷ [])) (made is.fields names)
    ||| behind (any (Delete ∷ [])) (made is.delete names)
    ||| behind (any (Rename ∷ [])) (made is.rename pairs)
    ||| behind (any (Copy ∷ [])) (made is.copy pairs)
    ||| record_pipe

-- { "|" pipe }
unfoldable pub pipes : Parse (List Stage)
pipes = others Bar pipe

-- query = or { "|" pipe }
unfoldable pub query : Parse Question
query = both asked (or Rows) pipes

-- ---- the grammar

abbrev pub heads : Name → Class
heads (group scope) = any (Open ∷ [])
heads (negation scope) = any negations
heads (inner_negation scope) = any negations
heads parenthesized = any (Open ∷ [])

abbrev pub rules : Name → Parse Value
rules (group scope) = made filtered (closed (or scope) (any (Close ∷ [])))
rules (negation scope) = made filtered (unary scope)
rules (inner_negation scope) = made filtered (inner scope)
rules parenthesized = made computed (closed expr (any (Close ∷ [])))

abbrev pub logsql : Grammar Bytes Reason Name Value
logsql = record { heads = heads; rules = rules }
