-- How much of a log is of its epoch.
use Rattle.std.proofs.Common.{◌≡◌, ◌<◌, ◌≤◌, ℕ, zero, suc, ◌+◌, Bool, true, false, ◌||◌, cond, List, [], ◌∷◌, ◌++◌, ◌-◌}
use Rattle.std.proofs.Common.{length, take, drop, refl, sym, ap, ◌∙◌, ◌&&◌, arith, leb, eqb}
use Rattle.std.proofs.lemmas.List.{length-drop, length-take-le, length_push, take-append-drop, take-take}
use Rattle.std.proofs.lemmas.Bool.{and_parts, eqb-true, false≢true, le-leb, leb-true}
use Rattle.desk_types.specs.declared.command.Entry.{Entry}
use Rattle.desk_log.specs.Entries.{IsLogPrefix}
use Rattle.desk_log.specs.SavedValue.{SavedValue, committed_entries}
use Rattle.desk_log.proofs.Prefixes.{prefix_append, prefix_take, take-prefix, length-prefix}
use Rattle.desk_epochs.specs.Histories.{epoch_log, has_ended}
use Rattle.desk_epochs.proofs.Epochs.{over_more}
use Rattle.desk_epochs.proofs.Histories.{over_same}
use Rattle.desk_epochs.proofs.RisingHistories.{cut_is_prefix}
use Rattle.desk_epoch_node.specs.declared.cut.Cut.{Cut}
use Rattle.desk_epoch_node.specs.Ends.{IsCut, cut_of, is_whole, reaches_end}
use Rattle.desk_epoch_node.specs.Replacements.{ends_epoch}

pub same_tests : (a b : Bool) → (a ≡ true → b ≡ true) → (b ≡ true → a ≡ true) → a ≡ b
same_tests true b f g = sym (f refl)
same_tests false true f g = g refl
same_tests false false f g = refl

pub or_false_parts : (a b : Bool) → (a || b) ≡ false → (a ≡ false) × (b ≡ false)
or_false_parts true b h = absurd (false≢true (sym h))
or_false_parts false b h = (refl, h)

or_true : (b : Bool) → (b || true) ≡ true
or_true true = refl
or_true false = refl

or_none : (b : Bool) → (b || false) ≡ b
or_none true = refl
or_none false = refl

-- What does not reach the end is of the epoch whole, and shorter than one may be.
pub cut_all : (ends : Entry → Bool) (k : ℕ) (xs : List Entry) → has_ended ends k xs ≡ false → epoch_log ends k xs ≡ xs
cut_all ends zero xs h = absurd (false≢true (sym h))
cut_all ends (suc k) [] h = refl
cut_all ends (suc k) (x ∷ xs) h =
    let p = or_false_parts (ends x) (has_ended ends k xs) h in
    ap (λ (es : List Entry). x ∷ es)
    (ap (λ b. cond b [] (epoch_log ends k xs)) p.0 ∙ cut_all ends k xs p.1)

pub short_of : (ends : Entry → Bool) (k : ℕ) (xs : List Entry) → has_ended ends k xs ≡ false → length xs < k
short_of ends zero xs h = absurd (false≢true (sym h))
short_of ends (suc k) [] h = omega arith
short_of ends (suc k) (x ∷ xs) h =
    let p = or_false_parts (ends x) (has_ended ends k xs) h in omega (arith, short_of ends k xs p.1)

-- It reaches the end with one entry more where they are as many as end an epoch, or the entry ends it.
ended_push : (ends : Entry → Bool) (k : ℕ) (xs : List Entry) (e : Entry) → has_ended ends k xs ≡ false →
    has_ended ends k (xs ++ e ∷ []) ≡ (leb k (length xs + 1) || ends e)
ended_push ends zero xs e h = absurd (false≢true (sym h))
ended_push ends (suc zero) [] e h =
    let full : leb 1 (0 + 1) ≡ true = le-leb 1 (0 + 1) (omega arith) in
    or_true (ends e) ∙ sym (ap (λ b. b || ends e) full)
ended_push ends (suc (suc k)) [] e h =
    let none : false ≡ leb (suc (suc k)) (0 + 1) = same_tests false (leb (suc (suc k)) (0 + 1))
    (λ t. absurd (false≢true t)) (λ t. absurd (omega (arith, leb-true (suc (suc k)) (0 + 1) t))) in
    or_none (ends e) ∙ ap (λ b. b || ends e) none
ended_push ends (suc k) (x ∷ xs) e h =
    let p = or_false_parts (ends x) (has_ended ends k xs) h in
    let same : leb k (length xs + 1) ≡ leb (suc k) (suc (length xs) + 1) =
    same_tests (leb k (length xs + 1)) (leb (suc k) (suc (length xs) + 1))
    (λ t. le-leb (suc k) (suc (length xs) + 1) (omega (arith, leb-true k (length xs + 1) t)))
    (λ t. le-leb k (length xs + 1) (omega (arith, leb-true (suc k) (suc (length xs) + 1) t))) in
    ap (λ b. b || has_ended ends k (xs ++ e ∷ [])) p.0
    ∙ (ended_push ends k xs e p.1
    ∙ ap (λ b. b || ends e) same)

none_cut : (ends : Entry → Bool) (k : ℕ) → epoch_log ends k [] ≡ []
none_cut ends zero = refl
none_cut ends (suc k) = refl

all_push : (ends : Entry → Bool) (k : ℕ) (xs : List Entry) (e : Entry) → has_ended ends k xs ≡ false →
    epoch_log ends k (xs ++ e ∷ []) ≡ xs ++ e ∷ []
all_push ends zero xs e h = absurd (false≢true (sym h))
all_push ends (suc k) [] e h = ap (λ (es : List Entry). e ∷ es) (by_end (ends e))
  where
    by_end : (b : Bool) → cond b [] (epoch_log ends k []) ≡ []
    by_end true = refl
    by_end false = none_cut ends k
all_push ends (suc k) (x ∷ xs) e h =
    let p = or_false_parts (ends x) (has_ended ends k xs) h in
    ap (λ (es : List Entry). x ∷ es)
    (ap (λ b. cond b [] (epoch_log ends k (xs ++ e ∷ []))) p.0 ∙ all_push ends k xs e p.1)

-- no entries
pub first_is_cut : (most : ℕ) → 1 ≤ most → IsCut most [] (record { count = 0; ended = false })
first_is_cut zero h = absurd (omega (arith, h))
first_is_cut (suc most) h = record { count_is = refl; ended_is = refl; short = λ o. omega arith }

-- one more behind the end
pub cut_stays : (most : ℕ) (log more : List Entry) (c : Cut) → c.ended ≡ true → IsCut most log c →
    IsCut most (log ++ more) c
cut_stays most log more c o is =
    let over : reaches_end most log ≡ true = sym is.ended_is ∙ o in record {
      count_is = is.count_is
          ∙ ap (λ (es : List Entry). length es)
          (over_same ends_epoch most log (log ++ more) (prefix_append log more) over);
      ended_is = o ∙ sym (over_more ends_epoch most log (log ++ more) (prefix_append log more) over);
      short = is.short;
    }

not_most : (a b : ℕ) → (a ≤ b → ⊥) → b < a
not_most zero b f = absurd (f (omega arith))
not_most (suc a) zero f = omega arith
not_most (suc a) (suc b) f = omega (arith, not_most a b (λ h. f (omega (arith, h))))

below : (a b : ℕ) → leb a b ≡ false → b < a
below a b f = not_most a b (λ h. false≢true (sym f ∙ le-leb a b h))

-- one more within the epoch
pub cut_push : (most : ℕ) (log : List Entry) (e : Entry) (c : Cut) (count : ℕ) (ended : Bool) → c.ended ≡ false →
    count ≡ c.count + 1 → ended ≡ (leb most count || ends_epoch e) → IsCut most log c →
    IsCut most (log ++ e ∷ []) (record { count = count; ended = ended })
cut_push most log e c count ended o count_is ended_is is =
    let going : reaches_end most log ≡ false = sym is.ended_is ∙ o in
    let all : c.count ≡ length log =
    is.count_is ∙ ap (λ (es : List Entry). length es) (cut_all ends_epoch most log going) in
    let same : count ≡ length log + 1 = count_is ∙ ap (λ k. k + 1) all in record {
      count_is = same
          ∙ (sym (length_push log e)
          ∙ ap (λ (es : List Entry). length es) (sym (all_push ends_epoch most log e going)));
      ended_is = ended_is
          ∙ (ap (λ k. leb most k || ends_epoch e) same
          ∙ sym (ended_push ends_epoch most log e going));
      short = λ f.
          let p = or_false_parts (leb most count) (ends_epoch e) (sym ended_is ∙ f) in
          below most count p.0;
    }

-- how long a cut is

rest_most : (b : Bool) (k : ℕ) (xs : List Entry) → length xs ≤ k → suc (length (cond b [] xs)) ≤ suc k
rest_most true k xs h = omega arith
rest_most false k xs h = omega (arith, h)

pub cut_length_most : (ends : Entry → Bool) (k : ℕ) (xs : List Entry) → length (epoch_log ends k xs) ≤ k
cut_length_most ends zero xs = omega arith
cut_length_most ends (suc k) [] = omega arith
cut_length_most ends (suc k) (x ∷ xs) = rest_most (ends x) k (epoch_log ends k xs) (cut_length_most ends k xs)

pub cut_least : (ends : Entry → Bool) (k : ℕ) (xs : List Entry) → 1 ≤ k → has_ended ends k xs ≡ true →
    1 ≤ length (epoch_log ends k xs)
cut_least ends zero xs h o = absurd (omega (arith, h))
cut_least ends (suc k) [] h o = absurd (false≢true o)
cut_least ends (suc k) (x ∷ xs) h o = omega arith

pub cut_within : (ends : Entry → Bool) (k : ℕ) (xs : List Entry) → length (epoch_log ends k xs) ≤ length xs
cut_within ends k xs = length-prefix (epoch_log ends k xs) xs (cut_is_prefix ends k xs)

-- the first entries, as many as a cut has, are the cut
pub cut_is_first : (ends : Entry → Bool) (k : ℕ) (xs : List Entry) →
    take (length (epoch_log ends k xs)) xs ≡ epoch_log ends k xs
cut_is_first ends k xs = take-prefix (epoch_log ends k xs) xs (cut_is_prefix ends k xs)

-- A whole log has an entry at least, and no more than end an epoch.
pub whole_least : (most : ℕ) (log : List Entry) → 1 ≤ most → is_whole most log ≡ true → 1 ≤ length log
whole_least most log h is =
    let p = and_parts (reaches_end most log) (eqb (length (cut_of most log)) (length log)) is in
    omega (arith, cut_least ends_epoch most log h p.0, eqb-true (length (cut_of most log)) (length log) p.1)

pub whole_most : (most : ℕ) (log : List Entry) → is_whole most log ≡ true → length log ≤ most
whole_most most log is =
    let p = and_parts (reaches_end most log) (eqb (length (cut_of most log)) (length log)) is in
    omega (arith, cut_length_most ends_epoch most log, eqb-true (length (cut_of most log)) (length log) p.1)

-- It is its own cut.
pub whole_is_cut : (most : ℕ) (log : List Entry) → is_whole most log ≡ true → cut_of most log ≡ log
whole_is_cut most log is =
    let p = and_parts (reaches_end most log) (eqb (length (cut_of most log)) (length log)) is in
    sym (cut_is_first ends_epoch most log)
    ∙ (ap (λ k. take k log) (eqb-true (length (cut_of most log)) (length log) p.1)
    ∙ take_all log)
  where
    take_all : (xs : List Entry) → take (length xs) xs ≡ xs
    take_all [] = refl
    take_all (x ∷ xs) = ap (λ (es : List Entry). x ∷ es) (take_all xs)

-- whether a cut says so
pub whole_of_cut : (most : ℕ) (log : List Entry) (c : Cut) → IsCut most log c →
    is_whole most log ≡ (c.ended && eqb c.count (length log))
whole_of_cut most log c is =
    ap (λ b. b && eqb (length (cut_of most log)) (length log)) (sym is.ended_is)
    ∙ ap (λ k. c.ended && eqb k (length log)) (sym is.count_is)

pub not_whole : (most : ℕ) (log : List Entry) → most < length log → is_whole most log ≡ false
not_whole most log h = by_test (is_whole most log) refl
  where
    by_test : (b : Bool) → is_whole most log ≡ b → is_whole most log ≡ false
    by_test true is = absurd (omega (arith, whole_most most log is, h))
    by_test false is = is

-- What was committed before are the first entries of a log.
pub known_stay : (old new : SavedValue) → IsLogPrefix (committed_entries old) (committed_entries new) →
    old.commit ≤ length old.log → old.commit ≤ new.commit → take old.commit new.log ≡ committed_entries old
known_stay old new f within more =
    sym (take-take old.commit new.commit new.log more)
    ∙ (ap (λ k. take k (committed_entries new)) (sym (length-take-le old.commit old.log within))
    ∙ take-prefix (committed_entries old) (committed_entries new) f)

pub known_joined : (known commit : ℕ) (log : List Entry) → known ≤ commit →
    take known log ++ drop known (take commit log) ≡ take commit log
known_joined known commit log h =
    ap (λ (es : List Entry). es ++ drop known (take commit log)) (sym (take-take known commit log h))
    ∙ take-append-drop known (take commit log)

pub or_left : (a b : Bool) → a ≡ true → a ≡ (a || b)
or_left true b h = refl
or_left false b h = absurd (false≢true h)

pub or_right : (a b r : Bool) → a ≡ false → r ≡ b → r ≡ (a || b)
or_right true b r h is = absurd (false≢true (sym h))
or_right false b r h is = is

-- the places of a cut
pub cut_places : (past most last : ℕ) (log : List Entry) (c : Cut) → IsCut most log c →
    leb (past + most + most) last ≡ true → past + c.count ≤ last
cut_places past most last log c is h =
    omega (arith, is.count_is, cut_length_most ends_epoch most log, leb-true (past + most + most) last h)

take_short : (k : ℕ) (xs : List Entry) → length (take k xs) ≤ k
take_short zero xs = omega arith
take_short (suc k) [] = omega arith
take_short (suc k) (x ∷ xs) = omega (arith, take_short k xs)

pub cut_within_commit : (most : ℕ) (s : SavedValue) → length (cut_of most (committed_entries s)) ≤ s.commit
cut_within_commit most s =
    omega (arith, cut_within ends_epoch most (committed_entries s), take_short s.commit s.log)

pub cut_within_log : (most : ℕ) (s : SavedValue) → length (cut_of most (committed_entries s)) ≤ length s.log
cut_within_log most s =
    omega (
      arith,
      cut_within ends_epoch most (committed_entries s),
      length-prefix (take s.commit s.log) s.log (prefix_take s.commit s.log),
    )

pub cut_commits : (most : ℕ) (s : SavedValue) (c : Cut) → IsCut most (committed_entries s) c → c.count ≤ s.commit
cut_commits most s c is = omega (arith, is.count_is, cut_within_commit most s)

pub count_first : (most : ℕ) (log : List Entry) (c : Cut) → IsCut most log c → take c.count log ≡ cut_of most log
count_first most log c is = ap (λ k. take k log) is.count_is ∙ cut_is_first ends_epoch most log

pub take_full : (k : ℕ) (xs : List Entry) → length xs ≤ k → take k xs ≡ xs
take_full zero [] h = refl
take_full zero (x ∷ xs) h = absurd (omega (arith, h))
take_full (suc k) [] h = refl
take_full (suc k) (x ∷ xs) h = ap (λ (es : List Entry). x ∷ es) (take_full k xs (omega (arith, h)))

-- The entries from one place on, up to a second, stand after the first ones.
pub known_rest : (known commit count : ℕ) (log own : List Entry) → known ≤ commit → count ≡ commit → own ≡ log →
    take known log ++ take (length (take count own) - known) (drop known (take count own)) ≡ take commit log
known_rest known commit count log own h is same =
    ap (λ (es : List Entry). take known log ++ take (length es - known) (drop known es))
    (ap (λ (k : ℕ). take k own) is ∙ ap (λ (es : List Entry). take commit es) same)
    ∙ (ap (λ (es : List Entry). take known log ++ es)
    (take_full (length (take commit log) - known) (drop known (take commit log))
    (omega (arith, length-drop known (take commit log))))
    ∙ known_joined known commit log h)

-- All entries from one place on stand after the first ones.
pub all_rest : (known count : ℕ) (log own : List Entry) → count ≡ known → own ≡ log →
    take known log ++ take (length own - count) (drop count own) ≡ log
all_rest known count log own is same =
    ap (λ (es : List Entry). take known log ++ take (length es - count) (drop count es)) same
    ∙ (ap (λ (k : ℕ). take known log ++ take (length log - k) (drop k log)) is
    ∙ (ap (λ (es : List Entry). take known log ++ es)
    (take_full (length log - known) (drop known log) (omega (arith, length-drop known log)))
    ∙ take-append-drop known log))

-- how many entries a cut has
pub cut_some : (most : ℕ) (log : List Entry) (c : Cut) → IsCut most log c → 1 ≤ most →
    reaches_end most log ≡ true → 1 ≤ c.count
cut_some most log c is h o = omega (arith, is.count_is, cut_least ends_epoch most log h o)

pub cut_most : (most : ℕ) (log : List Entry) (c : Cut) → IsCut most log c → c.count ≤ most
cut_most most log c is = omega (arith, is.count_is, cut_length_most ends_epoch most log)
