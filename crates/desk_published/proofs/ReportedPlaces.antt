-- A word to a client whose request stands at a place.
use Rattle.std.proofs.Common.{◌≡◌, ◌≤◌, ◌<◌, ◌⊎◌, ◌||◌, ◌-◌, ℕ, zero, suc, Bool, true, false, List, [], ◌∷◌, length}
use Rattle.std.proofs.Common.{take, map, Option, Some, None, nat_le, refl, sym, ◌∙◌, ap, inl, inr, arith, true≢false}
use lib.ListN.{get_or}
use Rattle.std.specs.List.{slice_get, list_any}
use Rattle.std.proofs.Math.Seq.{take-length}
use Rattle.std.proofs.lemmas.Option.{none-some}
use Rattle.std.proofs.lemmas.Bool.Decides.{nat_tests}
use Rattle.desk_types.specs.declared.command.Entry.{Entry}
use Rattle.desk_log.specs.Entries.{entry_at}
use Rattle.desk_published.specs.declared.reported.ReportedWord.TheVariants as words
use Rattle.desk_published.specs.Requests.{request_id, is_id_of}
use Rattle.desk_published.specs.declared.published.RequestId.{RequestId}
use Rattle.desk_published.specs.Reported.{is_request, is_some_request, is_request_at, stands}

or_true : (b : Bool) → (b || true) ≡ true
or_true true = refl
or_true false = refl

any_at : {A : Type 0} (f : A → Bool) (list : List A) (k : ℕ) (e : A) → slice_get list k ≡ Some e → f e ≡ true →
    list_any f list ≡ true
any_at f [] k e at is = absurd (none-some e at)
any_at f (x ∷ xs) zero e at is =
    let here : f x ≡ true = ap f (cc at) ∙ is in
    ap (λ b. b || list_any f xs) here
any_at f (x ∷ xs) (suc k) e at is = ap (λ b. f x || b) (any_at f xs k e at is) ∙ or_true (f x)

-- beyond the list there is no request
none_at : (list : List Entry) (k : ℕ) → length list ≤ k → slice_get list k ≡ None
none_at [] k le = refl
none_at (x ∷ xs) zero le = absurd (omega arith)
none_at (x ∷ xs) (suc k) le = none_at xs k (omega arith)

pub none_beyond : (list : List Entry) (client number place : ℕ) → (place ≡ 0) ⊎ (length list < place) →
    is_request_at list client number place ≡ false
none_beyond list client number zero h = refl
none_beyond list client number (suc k) (inl h) = absurd (omega arith)
none_beyond list client number (suc k) (inr h) = ap (is_some_request client number) (none_at list k (omega arith))

request_at : (list : List Entry) (client number k : ℕ) (other r : RequestId) → k < length list →
    r ≡ get_or (map request_id list) k other →
    is_some_request client number (slice_get list k) ≡ is_id_of client number r
request_at [] client number k other r less at = absurd (omega arith)
request_at (e ∷ list) client number zero other r less at = ap (is_id_of client number) (sym at)
request_at (e ∷ list) client number (suc k) other r less at = request_at list client number k other r (omega arith) at

-- whose request is kept at a place, is that of the entry there
pub some_request : (list : List Entry) (requests : List RequestId) (client number place : ℕ) (r : RequestId) →
    requests ≡ map request_id list → 1 ≤ place → place ≤ length list → r ≡ get_or requests (place - 1) r →
    is_request_at list client number place ≡ is_id_of client number r
some_request list requests client number zero r is least most at = absurd (omega arith)
some_request list requests client number (suc k) r is least most at =
    let before : suc k - 1 ≡ k = omega arith in
    request_at list client number k r r (omega arith)
    (at ∙ ap (λ w. get_or w (suc k - 1) r) is ∙ ap (λ j. get_or (map request_id list) j r) before)

at_entry : (client number : ℕ) (list : List Entry) (k : ℕ) (o : Option Entry) → slice_get list k ≡ o →
    is_some_request client number o ≡ true → list_any (is_request client number) list ≡ true
at_entry client number list k None at is = absurd (true≢false (sym is))
at_entry client number list k (Some e) at is = any_at (is_request client number) list k e at is

at_place : (list : List Entry) (client number place : ℕ) → is_request_at list client number place ≡ true →
    list_any (is_request client number) list ≡ true
at_place list client number zero is = absurd (true≢false (sym is))
at_place list client number (suc k) is = at_entry client number list k (slice_get list k) refl is

-- an entry that is published stands among the first so many, which are all
pub reported_stands : (list : List Entry) (client number place count : ℕ) →
    is_request_at list client number place ≡ true → count ≡ length list →
    stands list client number (words.Published count) ≡ true
reported_stands list client number place count is all =
    let there : list_any (is_request client number) (take count list) ≡ true =
    rw (all, take-length list) (at_place list client number place is) in
    let within : nat_le count (length list) ≡ true = grind (arith, nat_tests, all) in
    rw (within, there) refl
