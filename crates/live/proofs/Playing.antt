-- What a client was answered goes on with each call.
use Rattle.std.proofs.Common.{◌≡◌, ℕ, suc, ◌+◌, ◌≤◌, Bool, true, false, List, [], ◌∷◌, ◌++◌, length, refl, sym, ap, ◌∙◌, append_assoc, arith}
use Rattle.std.specs.Prelude.{IsTrue, All}
use Rattle.std.specs.List.{flat_map}
use Rattle.std.proofs.lemmas.List.Elements.{All-nil, All-push}
use Rattle.std.proofs.lemmas.List.{append-nil}
use Rattle.gfs_types.specs.declared.answer.Answer.{Answer}
use Rattle.gfs_types.specs.declared.answer.Answer.TheVariants as answer
use Rattle.gfs_types.specs.declared.call.Call.{Call}
use Rattle.gfs_types.specs.declared.refusal.Refusal.{Refusal}
use Rattle.cell_seats.specs.Seen.{Visible, Asked, Answered}
use Rattle.cell_seats.specs.Seats.{is_the_cells}
use Rattle.cell_looks.specs.ClientAnswers.{shown_as, AreOfTheCell, Stretch, calls_in, replies_in, heard_in, IsStretch, AreAnswered}
use Rattle.live.specs.Playing.{HasPlayed}

none_is : {X : Type 0} (xs : List X) → length xs ≡ 0 → xs ≡ []
none_is [] h = refl
none_is (x ∷ xs) h = absurd (omega (arith, h))

longer : {X : Type 0} (xs : List X) (x : X) → length (xs ++ x ∷ []) ≡ suc (length xs)
longer [] x = refl
longer (y ∷ ys) x = ap (λ (k : ℕ). suc k) (longer ys x)

shown_one_more : (calls : List Call) (replies : List Answer) (call : Call) (reply : Answer) → length replies ≡ length calls → shown_as (calls ++ call ∷ []) (replies ++ reply ∷ []) ≡ shown_as calls replies ++ Asked call ∷ Answered reply ∷ []
shown_one_more [] [] call reply h = refl
shown_one_more [] (r ∷ rs) call reply h = absurd (omega (arith, h))
shown_one_more (c ∷ cs) [] call reply h = absurd (omega (arith, h))
shown_one_more (c ∷ cs) (r ∷ rs) call reply h = ap (λ l. Asked c ∷ Answered r ∷ l) (shown_one_more cs rs call reply (let e : length rs ≡ length cs = omega (arith, h) in e))

refused_one_more : (replies : List Answer) (refusal : Refusal) → AreOfTheCell replies → IsTrue (is_the_cells refusal) → AreOfTheCell (replies ++ answer.Refused refusal ∷ [])
refused_one_more [] refusal all one = (one, tt)
refused_one_more (answer.Refused r ∷ rest) refusal all one = (all.0, refused_one_more rest refusal all.1 one)
refused_one_more (answer.Done ∷ rest) refusal all one = elim all [ ]
refused_one_more (answer.Fd _ ∷ rest) refusal all one = elim all [ ]
refused_one_more (answer.Names _ ∷ rest) refusal all one = elim all [ ]
refused_one_more (answer.Length _ ∷ rest) refusal all one = elim all [ ]
refused_one_more (answer.At _ ∷ rest) refusal all one = elim all [ ]
refused_one_more (answer.Bytes _ _ ∷ rest) refusal all one = elim all [ ]

-- lists of stretches

pub flat_one_more : {X Y : Type 0} (f : X → List Y) (xs : List X) (x : X) → flat_map f (xs ++ x ∷ []) ≡ flat_map f xs ++ f x
flat_one_more f [] x = append-nil (f x)
flat_one_more {X} {Y} f (y ∷ ys) x = ap (λ (l : List Y). f y ++ l) (flat_one_more f ys x) ∙ sym (append_assoc (f y) (flat_map f ys) (f x))

-- one more where nothing stands behind
one_heard : {X : Type 0} (before heard all : List X) (x : X) → all ≡ before ++ (heard ++ []) → all ++ x ∷ [] ≡ before ++ ((heard ++ x ∷ []) ++ [])
one_heard {X} before heard all x is =
    ap (λ (l : List X). l ++ x ∷ []) is
    ∙ (append_assoc before (heard ++ []) (x ∷ []) ∙ ap (λ (l : List X). before ++ l) (ap (λ (l : List X). l ++ x ∷ []) (append-nil heard) ∙ sym (append-nil (heard ++ x ∷ []))))

-- one more at the end
one_refused : {X : Type 0} (before heard refused all : List X) (x : X) → all ≡ before ++ (heard ++ refused) → all ++ x ∷ [] ≡ before ++ (heard ++ (refused ++ x ∷ []))
one_refused {X} before heard refused all x is =
    ap (λ (l : List X). l ++ x ∷ []) is ∙ (append_assoc before (heard ++ refused) (x ∷ []) ∙ ap (λ (l : List X). before ++ l) (append_assoc heard refused (x ∷ [])))

abbrev no_stretch : Stretch
no_stretch = record { heard = []; answers = []; refused = []; refusals = [] }

no_stretch_is : IsStretch no_stretch
no_stretch_is = record { each = refl; all = refl; of_the_cell = tt }

pub nothing_played : HasPlayed [] false 0 [] []
nothing_played = record {
  before = [];
  last = no_stretch;
  count = omega arith;
  were = All-nil IsStretch;
  is = no_stretch_is;
  calls_are = refl;
  replies_are = refl;
  shows = refl;
  none_refused = λ _. refl;
}

-- a call that was answered
pub answered_one_more : (seen : List Visible) (was : Bool) (reopens : ℕ) (calls : List Call) (replies : List Answer) (call : Call) (reply : Answer) (now : List Visible) (lost : Bool) → was ≡ false
    → now ≡ seen ++ Asked call ∷ Answered reply ∷ [] → HasPlayed seen was reopens calls replies → HasPlayed now lost reopens (calls ++ call ∷ []) (replies ++ reply ∷ [])
answered_one_more seen was reopens calls replies call reply now lost was_open shows h = record {
  before = h.before;
  last = record { heard = s.heard ++ call ∷ []; answers = s.answers ++ reply ∷ []; refused = []; refusals = [] };
  count = h.count;
  were = h.were;
  is = record { each = longer s.answers reply ∙ (ap (λ (k : ℕ). suc k) h.is.each ∙ sym (longer s.heard call)); all = refl; of_the_cell = tt };
  calls_are = one_heard (flat_map calls_in h.before) s.heard calls call (h.calls_are ∙ ap (λ (l : List Call). flat_map calls_in h.before ++ (s.heard ++ l)) none);
  replies_are = one_heard (flat_map replies_in h.before) s.answers replies reply (h.replies_are ∙ ap (λ (l : List Answer). flat_map replies_in h.before ++ (s.answers ++ l)) no_refusals);
  shows = shows
      ∙ (ap (λ (l : List Visible). l ++ Asked call ∷ Answered reply ∷ []) h.shows
      ∙ (append_assoc (flat_map heard_in h.before) (shown_as s.heard s.answers) (Asked call ∷ Answered reply ∷ [])
      ∙ ap (λ (l : List Visible). flat_map heard_in h.before ++ l) (sym (shown_one_more s.heard s.answers call reply h.is.each))));
  none_refused = λ _. refl;
}
  where
    s : Stretch
    s = h.last

    none : s.refused ≡ []
    none = h.none_refused was_open

    no_refusals : s.refusals ≡ []
    no_refusals = none_is s.refusals (h.is.all ∙ ap length none)

-- a call that the cell itself refused
pub refused_more : (seen : List Visible) (was : Bool) (reopens : ℕ) (calls : List Call) (replies : List Answer) (call : Call) (refusal : Refusal) (now : List Visible) (lost : Bool) → lost ≡ true → now ≡ seen
    → IsTrue (is_the_cells refusal) → HasPlayed seen was reopens calls replies → HasPlayed now lost reopens (calls ++ call ∷ []) (replies ++ answer.Refused refusal ∷ [])
refused_more seen was reopens calls replies call refusal now lost is same own h = record {
  before = h.before;
  last = record { heard = s.heard; answers = s.answers; refused = s.refused ++ call ∷ []; refusals = s.refusals ++ answer.Refused refusal ∷ [] };
  count = h.count;
  were = h.were;
  is = record {
    each = h.is.each;
    all = longer s.refusals (answer.Refused refusal) ∙ (ap (λ (k : ℕ). suc k) h.is.all ∙ sym (longer s.refused call));
    of_the_cell = refused_one_more s.refusals refusal h.is.of_the_cell own;
  };
  calls_are = one_refused (flat_map calls_in h.before) s.heard s.refused calls call h.calls_are;
  replies_are = one_refused (flat_map replies_in h.before) s.answers s.refusals replies (answer.Refused refusal) h.replies_are;
  shows = same ∙ h.shows;
  none_refused = λ (still_open : lost ≡ false). absurd (let both : true ≡ false = sym is ∙ still_open in cc);
}
  where
    s : Stretch
    s = h.last

-- what was played, with its last stretch among the others
ended : {Y : Type 0} (f : Stretch → List Y) (before : List Stretch) (last : Stretch) (all : List Y) → all ≡ flat_map f before ++ f last → all ≡ flat_map f (before ++ last ∷ [])
ended f before last all is = is ∙ sym (flat_one_more f before last)

-- the cell was parked and goes on
pub reopened : (seen : List Visible) (was : Bool) (reopens : ℕ) (calls : List Call) (replies : List Answer) (now : List Visible) (lost : Bool) → now ≡ seen → HasPlayed seen was reopens calls replies
    → HasPlayed now lost (reopens + 1) calls replies
reopened seen was reopens calls replies now lost same h = record {
  before = h.before ++ h.last ∷ [];
  last = no_stretch;
  count = omega (arith, longer h.before h.last, h.count);
  were = All-push IsStretch h.before h.last h.were h.is;
  is = no_stretch_is;
  calls_are = ended calls_in h.before h.last calls h.calls_are ∙ sym (append-nil (flat_map calls_in (h.before ++ h.last ∷ [])));
  replies_are = ended replies_in h.before h.last replies h.replies_are ∙ sym (append-nil (flat_map replies_in (h.before ++ h.last ∷ [])));
  shows = same ∙ (ended heard_in h.before h.last seen h.shows ∙ sym (append-nil (flat_map heard_in (h.before ++ h.last ∷ []))));
  none_refused = λ _. refl;
}

-- the cell may have been parked more often
pub played_more : (seen : List Visible) (was : Bool) (reopens more : ℕ) (calls : List Call) (replies : List Answer) → reopens ≤ more → HasPlayed seen was reopens calls replies → HasPlayed seen was more calls replies
played_more seen was reopens more calls replies few h = record {
  before = h.before;
  last = h.last;
  count = omega (arith, h.count, few);
  were = h.were;
  is = h.is;
  calls_are = h.calls_are;
  replies_are = h.replies_are;
  shows = h.shows;
  none_refused = h.none_refused;
}

-- all was played
pub played_whole : (seen : List Visible) (was : Bool) (reopens : ℕ) (calls : List Call) (replies : List Answer) → HasPlayed seen was reopens calls replies → AreAnswered seen reopens calls replies
played_whole seen was reopens calls replies h = record {
  stretches = h.before ++ h.last ∷ [];
  count = omega (arith, longer h.before h.last, h.count);
  are = All-push IsStretch h.before h.last h.were h.is;
  calls_are = ended calls_in h.before h.last calls h.calls_are;
  replies_are = ended replies_in h.before h.last replies h.replies_are;
  shows = ended heard_in h.before h.last seen h.shows;
}
