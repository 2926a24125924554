-- The faults of a command line are all to be shown, or none is.
use Rattle.std.proofs.Common.{◌≡◌, ℕ, zero, suc, Bool, cond, true, false, not, ◌&&◌, ◌||◌, ◌==◌, List, [], ◌∷◌, length, refl, sym, ap, ◌∙◌, inl, inr, true≢false, Option, Some, None, is_some, codes, slice_get, nat_lt}
use Rattle.std.specs.List.{find, list_all}
use Rattle.std.specs.Option.{option_map_or}
use Rattle.std.specs.Str.{bytes_eq, chars}
use Rattle.clap.specs.Lexer.{long_of, short_of}
use Rattle.clap.specs.Facts.{parser_of_value, unwrap_or_range}
use Rattle.clap.specs.ValueTests.{accepts}
use Rattle.clap.specs.Values.{refused_kind}
use Rattle.clap.specs.Walk.{Held, Names, Row, Rule, Step, Text, Walk, next, trailing, subcommand, value, action_of, answers_to, arg_by_id, arg_by_index, arg_by_long, arg_by_short, has_row, is_empty, most_values, nothing_held, subcommand_met, takes_values, walk, walk_from, walked, with_default, word_met}
use Rattle.clap.specs.Simple.{App, Shape, argument_words, built, label_of, names_of}
use Rattle.clap.specs.Kinds.{IsAmong, Kinds, check_kinds, or_else, range_kinds, request_kinds, value_kinds, values_kinds}
use Rattle.clap.specs.Faults.{action_fault, bundle_step_fault, count_fault, default_fault, defaults_fault, entered_fault, flag_word_fault, flags_fault, level_fault, long_fault, option_fault, other_fault, react_fault, settle_fault, set_fault, short_fault, step_fault, turn_fault, use_fault, values_fault, walk_fault, word_fault, built_fault}
use Rattle.clap.specs.declared.builder.action.ArgAction.{ArgAction}
use Rattle.clap.specs.declared.builder.action.ArgAction.TheVariants.{Set, Append, SetTrue, SetFalse, Count, Help, HelpShort, HelpLong, Version}
use Rattle.clap.specs.declared.builder.value_parser.ValueParser.{ValueParser}
use Rattle.clap.specs.declared.error.kind.ErrorKind.{ErrorKind}
use Rattle.clap.specs.declared.error.kind.ErrorKind.TheVariants as kind
use Rattle.clap.proofs.SimpleLemmas.{is_false}
use Rattle.clap.proofs.WalkLemmas.{both}
use Rattle.clap.proofs.OnLiterals.{clap_on_literals}
use Rattle.command_line.specs.Program.{program}
use Rattle.command_line.specs.Asking.{faults, is_shown}

abbrev pub are_alike : Kinds → Bool
are_alike kinds = list_all is_shown kinds || list_all (λ k. not (is_shown k)) kinds

record Alike (kinds : Kinds) : Type 0 where
  pub same : are_alike kinds ≡ true

by : (kinds : Kinds) → are_alike kinds ≡ true → Alike kinds
by kinds e = record { same = e }

one_alike : (k : ErrorKind) → Alike (k ∷ [])
one_alike k = by (k ∷ []) (go (is_shown k))
  where
    go : (b : Bool) → ((b && true) || (not b && true)) ≡ true
    go true = refl
    go false = refl

either_alike : (b : Bool) (xs ys : Kinds) → Alike xs → Alike ys → Alike (cond b xs ys)
either_alike true xs ys hx hy = hx
either_alike false xs ys hx hy = hy

first_alike : (xs ys : Kinds) → Alike xs → Alike ys → Alike (or_else xs ys)
first_alike [] ys hx hy = hy
first_alike (k ∷ ks) ys hx hy = hx

maybe_alike : {X : Type 0} (f : X → Kinds) (o : Option X) (none : Kinds) → ((x : X) → Alike (f x)) → Alike none → Alike (option_map_or f o none)
maybe_alike f None none hf h = h
maybe_alike f (Some x) none hf h = hf x

-- ---- one use of an argument

value_alike : (ignore : Bool) (parser : ValueParser) (text : Text) → Alike (value_kinds ignore parser text)
value_alike ignore parser text = either_alike (accepts ignore parser text) [] (refused_kind parser ∷ []) (by _ refl) (one_alike (refused_kind parser))

values_alike : (ignore : Bool) (parser : ValueParser) (vs : List Text) → Alike (values_kinds ignore parser vs)
values_alike ignore parser [] = by _ refl
values_alike ignore parser (v ∷ vs) = first_alike (value_kinds ignore parser v) (values_kinds ignore parser vs) (value_alike ignore parser v) (values_alike ignore parser vs)

range_alike : (least most n : ℕ) → Alike (range_kinds least most n)
range_alike least most n = either_alike (nat_lt 0 least && n == 0) (kind.InvalidValue ∷ []) _ (by _ refl)
    (either_alike (least == most) _ _ (either_alike (least == n) [] (kind.WrongNumberOfValues ∷ []) (by _ refl) (by _ refl))
    (either_alike (nat_lt n least) (kind.TooFewValues ∷ []) _ (by _ refl) (either_alike (nat_lt most n) (kind.TooManyValues ∷ []) [] (by _ refl) (by _ refl))))

set_alike : (again : Bool) (a : Rule) (vs : List Text) (rows : List Row) → Alike (set_fault again a vs rows)
set_alike again a vs rows = first_alike (cond (has_row a.id rows && not again) (kind.ArgumentConflict ∷ []) []) (values_fault a vs)
    (either_alike (has_row a.id rows && not again) (kind.ArgumentConflict ∷ []) [] (by _ refl) (by _ refl)) (values_alike a.ignore_case (parser_of_value a.parser) vs)

count_alike : (a : Rule) (vs : List Text) (rows : List Row) → Alike (count_fault a vs rows)
count_alike a [] rows = value_alike a.ignore_case (parser_of_value a.parser) _
count_alike a (v ∷ vs) rows = values_alike a.ignore_case (parser_of_value a.parser) (v ∷ vs)

action_alike : (x : ArgAction) (again : Bool) (a : Rule) (vs : List Text) (rows : List Row) → Alike (action_fault x again a vs rows)
action_alike Set again a vs rows = set_alike again a vs rows
action_alike SetTrue again a vs rows = set_alike again a vs rows
action_alike SetFalse again a vs rows = set_alike again a vs rows
action_alike Append again a vs rows = values_alike a.ignore_case (parser_of_value a.parser) vs
action_alike Count again a vs rows = count_alike a vs rows
action_alike Help again a vs rows = by _ refl
action_alike HelpShort again a vs rows = by _ refl
action_alike HelpLong again a vs rows = by _ refl
action_alike Version again a vs rows = by _ refl

request_alike : (x : ArgAction) → Alike (request_kinds x)
request_alike Set = by _ refl
request_alike SetTrue = by _ refl
request_alike SetFalse = by _ refl
request_alike Append = by _ refl
request_alike Count = by _ refl
request_alike Help = by _ refl
request_alike HelpShort = by _ refl
request_alike HelpLong = by _ refl
request_alike Version = by _ refl

use_alike : (again : Bool) (a : Rule) (vs : List Text) (rows : List Row) → Alike (use_fault again a vs rows)
use_alike again a vs rows = first_alike (range_kinds (unwrap_or_range a.range).start_inclusive (most_values a) (length vs)) _
    (range_alike (unwrap_or_range a.range).start_inclusive (most_values a) (length vs)) (action_alike (action_of a) again a _ rows)

-- ---- the walk

settle_alike : (c : List Rule) (again : Bool) (h : Held) → Alike (settle_fault c again h)
settle_alike c again h = maybe_alike _ h.pending [] (λ p. maybe_alike _ (arg_by_id c p.0) [] (λ a. use_alike again a p.1 h.rows) (by _ refl)) (by _ refl)

react_alike : (c : List Rule) (again : Bool) (a : Rule) (vs : List Text) (h : Held) → Alike (react_fault c again a vs h)
react_alike c again a vs h = first_alike (settle_fault c again h) _ (settle_alike c again h) (use_alike again a vs _)

option_alike : (c : List Rule) (again : Bool) (a : Rule) (v : Option Text) (h : Held) → Alike (option_fault c again a v h)
option_alike c again a (Some v) h = react_alike c again a (v ∷ []) h
option_alike c again a None h = settle_alike c again h

long_alike : (c : List Rule) (again : Bool) (o : Option Rule) (v : Option Text) (h : Held) → Alike (long_fault c again o v h)
long_alike c again None v h = by _ refl
long_alike c again (Some a) v h = either_alike (takes_values a) _ _ (option_alike c again a v h) (either_alike (is_some v) (kind.TooManyValues ∷ []) _ (by _ refl) (react_alike c again a [] h))

short_alike : (c : List Rule) (again : Bool) (o : Option Rule) (rest : Text) (h : Held) (more : Held → Kinds) → ((k : Held) → Alike (more k)) → Alike (short_fault c again o rest h more)
short_alike c again None rest h more hn = by _ refl
short_alike c again (Some a) rest h more hn = either_alike (takes_values a) _ _ (option_alike c again a _ h) (first_alike (react_fault c again a [] h) _ (react_alike c again a [] h) (hn _))

bundle_step_alike : (c : List Rule) (again : Bool) (o : Option ℕ) (text : Text) (skip : ℕ) (h : Held) (more : Text → ℕ → Held → Kinds)
    → ((t : Text) (n : ℕ) (k : Held) → Alike (more t n k)) → Alike (bundle_step_fault c again o text skip h more)
bundle_step_alike c again None text skip h more hn = by _ refl
bundle_step_alike c again (Some x) text zero h more hn = short_alike c again (arg_by_short c x) _ h _ (hn _ 0)
bundle_step_alike c again (Some x) text (suc skip) h more hn = hn _ skip h

flags_alike : (c : List Rule) (again : Bool) (k : ℕ) (text : Text) (skip : ℕ) (h : Held) → Alike (flags_fault c again k text skip h)
unfolding flags_fault
flags_alike c again zero text skip h = by _ refl
flags_alike c again (suc k) text skip h = bundle_step_alike c again (slice_get (chars text) 0) text skip h (flags_fault c again k) (flags_alike c again k)

flag_word_alike : (c : List Rule) (again : Bool) (o : Option (Text × Option Text)) (word : Text) (h : Held) → Alike (flag_word_fault c again o word h)
flag_word_alike c again (Some p) word h = long_alike c again (arg_by_long c p.0) p.1 h
flag_word_alike c again None word h = maybe_alike _ (short_of word) [] (λ text. flags_alike c again (length text) text h.skip _) (by _ refl)

other_alike : (s : Shape) (o : Option Text) (word : Text) (h : Held) → s.disable_help_subcommand ≡ true → Alike (other_fault s o word h)
other_alike s (Some name) word h off = go (bytes_eq name (codes "help")) s.disable_help_subcommand off
  where
    go : (b disabled : Bool) → disabled ≡ true → Alike (cond (b && not disabled) (kind.DisplayHelp ∷ kind.InvalidSubcommand ∷ []) [])
    go b false e = absurd (true≢false (sym e))
    go false true e = by _ refl
    go true true e = by _ refl
other_alike s None word h off = either_alike (bytes_eq word (45 ∷ 45 ∷ [])) [] _ (by _ refl) (flag_word_alike s.rules s.args_override_self (long_of word) word h)

step_alike : (s : Shape) (position : ℕ) (h : Held) (x : Step) → Alike (step_fault s position h x)
step_alike s position h (next waiting) = by _ refl
step_alike s position h (trailing p) = by _ refl
step_alike s position h (subcommand name) = by _ refl
step_alike s position h value = maybe_alike _ (arg_by_index s.rules position) _ (λ a. either_alike _ [] _ (by _ refl) (settle_alike s.rules s.args_override_self h)) (either_alike s.is_leaf _ _ (by _ refl) (by _ refl))

turn_alike : (s : Shape) (names : Names) (w : Walk) (word : Text) → s.disable_help_subcommand ≡ true → Alike (turn_fault s names w word)
turn_alike s names w word off = either_alike (is_some w.stopped) [] _ (by _ refl)
    (first_alike (word_fault s names w.is_trailing w.waiting word w.held) _
    (either_alike w.is_trailing [] _ (by _ refl) (other_alike s (subcommand_met names w.waiting word) word w.held off))
    (step_alike s w.position (word_met s.rules names w.is_trailing w.waiting w.position word w.held).0 _))

walk_alike : (s : Shape) (names : Names) (w : Walk) (words : List Text) → s.disable_help_subcommand ≡ true → Alike (walk_fault s names w words)
unfolding walk_fault
walk_alike s names w [] off = by _ refl
walk_alike s names w (word ∷ rest) off = first_alike (turn_fault s names w word) _ (turn_alike s names w word off) (walk_alike s names (walked s.rules names w word) rest off)

-- ---- after the walk

defaults_alike : (rows : List Row) (rules : List Rule) → Alike (defaults_fault rows rules)
unfolding defaults_fault
defaults_alike rows [] = by _ refl
defaults_alike rows (a ∷ rest) = first_alike (default_fault rows a) _
    (either_alike (has_row a.id rows || is_empty a.defaults) [] _ (by _ refl)
    (first_alike (request_kinds (action_of a)) _ (request_alike (action_of a)) (values_alike a.ignore_case (parser_of_value a.parser) a.defaults)))
    (defaults_alike (with_default rows a) rest)

checks_alike : (help sub arg : Bool) → Alike (check_kinds help sub arg)
checks_alike true sub arg = by _ refl
checks_alike false true arg = by _ refl
checks_alike false false true = by _ refl
checks_alike false false false = by _ refl

level_alike : (s : Shape) (names : Names) (h : Held) (words : List Text) (has : Bool) (below : Kinds) → s.disable_help_subcommand ≡ true → Alike below
    → Alike (level_fault s names h words has below)
level_alike s names h words has below off hb =
    let end = (walk s.rules names h words).held in
    first_alike (walk_fault s names (walk_from h) words) _ (walk_alike s names (walk_from h) words off)
    (first_alike below _ hb (first_alike (settle_fault s.rules s.args_override_self end) _ (settle_alike s.rules s.args_override_self end)
    (first_alike (defaults_fault _ s.rules) _ (defaults_alike _ s.rules) (checks_alike _ _ _))))

found_alike : (f : Shape → Kinds) (p : Shape → Bool) (subs : List Shape) → ((s : Shape) → s.disable_help_subcommand ≡ true → Alike (f s))
    → list_all (λ (s : Shape). s.disable_help_subcommand) subs ≡ true → Alike (option_map_or f (find p subs) [])
found_alike f p [] hf all = by _ refl
found_alike f p (x ∷ xs) hf all = go (p x) (found_alike f p xs hf (both x.disable_help_subcommand _ all).1)
  where
    go : (b : Bool) → Alike (option_map_or f (find p xs) []) → Alike (option_map_or f (cond b (Some x) (find p xs)) [])
    go true h = hf x (both x.disable_help_subcommand _ all).0
    go false h = h

entered_alike : (a : App) (stop : Option (Text × List Text)) → list_all (λ (s : Shape). s.disable_help_subcommand) a.subs ≡ true → Alike (entered_fault a stop)
entered_alike a stop all = maybe_alike _ stop [] (λ p. found_alike (λ s. level_fault s [] nothing_held p.1 false []) (λ s. answers_to p.0 (label_of s)) a.subs
    (λ s off. level_alike s [] nothing_held p.1 false [] off (by _ refl)) all) (by _ refl)

built_alike : (a : App) (h : Held) (words : List Text) → a.top.disable_help_subcommand ≡ true → list_all (λ (s : Shape). s.disable_help_subcommand) a.subs ≡ true
    → Alike (built_fault a h words)
built_alike a h words off all = level_alike a.top (names_of a) h words _ _ off (entered_alike a _ all)

top_has_no_help : (built program).top.disable_help_subcommand ≡ true
unfolding clap_on_literals
top_has_no_help = refl

subs_have_no_help : list_all (λ (s : Shape). s.disable_help_subcommand) (built program).subs ≡ true
unfolding clap_on_literals
subs_have_no_help = refl

pub faults_are_alike : (words : List Text) → are_alike (faults words) ≡ true
faults_are_alike words = (built_alike (built program) nothing_held (argument_words program words) top_has_no_help subs_have_no_help).same

-- ---- so the first tells of all

all_among : (p : ErrorKind → Bool) (k : ErrorKind) (kinds : Kinds) → list_all p kinds ≡ true → IsAmong k kinds → p k ≡ true
all_among p k [] e h = absurd h
all_among p k (x ∷ xs) e (inl is) = ap p is ∙ (both _ _ e).0
all_among p k (x ∷ xs) e (inr h) = all_among p k xs (both _ _ e).1 h

or_false : (b : Bool) → (b || false) ≡ true → b ≡ true
or_false true e = refl
or_false false e = e

pub first_tells : (k first : ErrorKind) (rest : Kinds) → are_alike (first ∷ rest) ≡ true → IsAmong k (first ∷ rest) → is_shown k ≡ is_shown first
first_tells k first rest e (inl is) = ap is_shown is
first_tells k first rest e (inr h) = go (is_shown first) e
  where
    go : (b : Bool) → ((b && list_all is_shown rest) || (not b && list_all (λ x. not (is_shown x)) rest)) ≡ true → is_shown k ≡ b
    go true e = all_among is_shown k rest (or_false _ e) h
    go false e = is_false (is_shown k) (all_among (λ x. not (is_shown x)) k rest e h)
