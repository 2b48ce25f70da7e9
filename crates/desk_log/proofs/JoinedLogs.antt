-- A log made of the first entries of another one and of given entries.
use Rattle.std.proofs.Common.{◌≡◌, ◌≤◌, ◌+◌, ◌-◌, ◌∙◌, ℕ, Bool, true, List, ◌++◌, length, take, drop, sym, ap, arith}
use Rattle.std.proofs.Math.Seq.{take-append-add}
use Rattle.std.proofs.lemmas.Bool.Decides.{same_from_decides}
use Rattle.std.proofs.lemmas.List.{append_cancel_left, length-append, length-take-le, take-append-drop}
use Rattle.std.specs.Bool.{Decides}
use Rattle.desk_types.specs.declared.command.Entry.{Entry}
use Rattle.desk_log.specs.Change.{keeps_committed}
use Rattle.desk_log.specs.SavedValue.{SavedValue}
use Rattle.desk_log.proofs.KeepsCommitted.{keeps_committed-Decides}

-- the first c entries of the first b ones and others
take_joined : (xs ys : List Entry) (b c : ℕ) → b ≤ length xs → b ≤ c →
    take c (take b xs ++ ys) ≡ take b xs ++ take (c - b) ys
take_joined xs ys b c l m =
    let e : length (take b xs) ≡ b = length-take-le b xs l in
    let k : c ≡ length (take b xs) + (c - b) = omega (arith, e, m) in
    ap (λ j. take j (take b xs ++ ys)) k ∙ take-append-add (take b xs) ys (c - b)

take_split : (xs : List Entry) (b c : ℕ) → b ≤ length xs → b ≤ c →
    take c xs ≡ take b xs ++ take (c - b) (drop b xs)
take_split xs b c l m = ap (λ zs. take c zs) (sym (take-append-drop b xs)) ∙ take_joined xs (drop b xs) b c l m

pub length_joined : (xs ys : List Entry) (b : ℕ) → b ≤ length xs → length (take b xs ++ ys) ≡ b + length ys
length_joined xs ys b l = length-append (take b xs) ys ∙ ap (λ k. k + length ys) (length-take-le b xs l)

-- A test for what the given entries go on with is the test for the committed entries.
pub preserved_is : (s : SavedValue) (b : ℕ) (ys : List Entry) (r : Bool) → b ≤ s.commit → s.commit ≤ length s.log →
    Decides r ((s.commit ≤ b + length ys) × (take (s.commit - b) (drop b s.log) ≡ take (s.commit - b) ys)) →
    r ≡ keeps_committed s (take b s.log ++ ys)
preserved_is s b ys r m l d =
    let w : b ≤ length s.log = omega (arith, m, l) in
    let len : length (take b s.log ++ ys) ≡ b + length ys = length_joined s.log ys b w in
    let own : take s.commit s.log ≡ take b s.log ++ take (s.commit - b) (drop b s.log) =
    take_split s.log b s.commit w m in
    let joined : take s.commit (take b s.log ++ ys) ≡ take b s.log ++ take (s.commit - b) ys =
    take_joined s.log ys b s.commit w m in
    same_from_decides r (keeps_committed s (take b s.log ++ ys)) (
      λ t. (omega (arith, len, (d.0 t).0), own ∙ (ap (λ zs. take b s.log ++ zs) (d.0 t).1 ∙ sym joined)),
      λ e. d.1 (
        omega (arith, len, e.0),
        append_cancel_left (take b s.log) _ _ (sym own ∙ (e.1 ∙ joined)),
      ),
    )
    (keeps_committed-Decides s (take b s.log ++ ys))

-- Where it passes, what is committed is within the joined log.
pub preserved_within : (s : SavedValue) (b : ℕ) (ys : List Entry) → b ≤ length s.log →
    keeps_committed s (take b s.log ++ ys) ≡ true → s.commit ≤ b + length ys
preserved_within s b ys l t =
    let len : length (take b s.log ++ ys) ≡ b + length ys = length_joined s.log ys b l in
    omega (arith, len, ((keeps_committed-Decides s (take b s.log ++ ys)).0 t).0)
