-- What the calls make that build the command.
use Rattle.std.proofs.Common.{◌≡◌, ◌∙◌, ℕ, ◌+◌, ◌<◌, List, [], ◌∷◌, ◌++◌, length, get_or, take, map, sym, ap, append_assoc, Bor, codes, true}
use Rattle.std.proofs.lemmas.List.{map_more, map-append}
use Rattle.clap.specs.Walk.{Rule, Text}
use Rattle.clap.specs.Simple.{App, new_app, on_top, with_rule}
use Rattle.command_line.specs.Program.{gfscell, names, option_named, with_options}

pub one_more : (a : App) (xs : List (Bor Text × Bor Text)) (i : ℕ) (d : Bor Text × Bor Text) → i < length xs
    → with_rule (with_options a (names (take i xs))) (option_named (get_or xs i d).0.now) ≡ with_options a (names (take (i + 1) xs))
one_more a xs i d lt =
    let name = (get_or xs i d).0.now in
    let more : names (take (i + 1) xs) ≡ names (take i xs) ++ name ∷ [] = map_more (λ (p : Bor Text × Bor Text). p.0.now) xs i d lt in
    let rules : map option_named (names (take (i + 1) xs)) ≡ map option_named (names (take i xs)) ++ option_named name ∷ [] =
    ap (map option_named) more ∙ map-append option_named (names (take i xs)) (name ∷ []) in
    ap (λ (rs : List Rule). on_top (λ s. record s { rules = rs }) a)
    (append_assoc a.top.rules (map option_named (names (take i xs))) (option_named name ∷ []) ∙ ap (λ (rs : List Rule). a.top.rules ++ rs) (sym rules))

pub top_is : (named versioned described unhelped needed : App) → named ≡ new_app (codes "gfscell") → versioned ≡ on_top (λ s. record s { has_version = true }) named
    → described ≡ versioned → unhelped ≡ on_top (λ s. record s { disable_help_subcommand = true }) described
    → needed ≡ on_top (λ s. record s { subcommand_required = true }) unhelped → needed ≡ record { top = record gfscell { is_leaf = true }; subs = [] }
top_is named versioned described unhelped needed n v d u e = e ∙ ap (on_top (λ s. record s { subcommand_required = true }))
    (u ∙ ap (on_top (λ s. record s { disable_help_subcommand = true })) (d ∙ v ∙ ap (on_top (λ s. record s { has_version = true })) n))
