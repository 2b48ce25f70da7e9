-- Packets among packets, what nodes acknowledged in them, and commits that a majority backs.
use Rattle.std.proofs.Common.{◌≡◌, ℕ, zero, suc, ◌<◌, ◌≤◌, ◌⊎◌, max, true, ◌&&◌, List, [], ◌∷◌, ◌++◌, length, get_or}
use Rattle.std.proofs.Common.{Some, refl, ◌∙◌, arith, inl, inr, ⊎_elim, eqb, leb}
use Rattle.std.specs.List.{slice_get, Contains}
use Rattle.std.proofs.lemmas.Bool.{cases_lt, or_cases, or_left, or_right, and_parts, and_from, false≢true, leb-true}
use Rattle.std.proofs.lemmas.Bool.{le-leb, eqb-true, eq-eqb}
use Rattle.std.proofs.lemmas.List.Folds.{list_any-append}
use Rattle.std.proofs.lemmas.Option.{slice_get_within, get_or_from_slice_get}
use Rattle.desk_types.specs.declared.packet.Message.{Message}
use Rattle.desk_types.specs.declared.packet.Message.TheVariants.{Prepare, PrepareOk, Commit, StartViewChange}
use Rattle.desk_types.specs.declared.packet.Message.TheVariants.{DoViewChange, StartView, GetState, NewState}
use Rattle.desk_world.specs.Views.{IsChosen}
use Rattle.desk_log.proofs.Tallies.{tally_le}
use Rattle.desk_node.specs.Said.{acks, has_acked}

-- elements of lists

pub Contains-here : {X : Type 0} (x : X) (xs : List X) → Contains (x ∷ xs) x
Contains-here x xs = (0, omega arith, refl)

pub Contains-there : {X : Type 0} (x : X) (xs : List X) (y : X) → Contains xs y → Contains (x ∷ xs) y
Contains-there x xs y c = (suc c.0, omega (arith, c.1), c.2)

pub Contains-cases : {X : Type 0} (x : X) (xs : List X) (y : X) → Contains (x ∷ xs) y → (x ≡ y) ⊎ Contains xs y
Contains-cases x xs y c = by_place c.0 c.1 c.2
  where
    by_place : (k : ℕ) → k < suc (length xs) → get_or (x ∷ xs) k y ≡ y → (x ≡ y) ⊎ Contains xs y
    by_place zero l e = inl e
    by_place (suc k) l e = inr (k, omega arith, e)

pub Contains-none : {X : Type 0} (x : X) → Contains [] x → ⊥
Contains-none x c = omega (arith, c.1)

pub Contains-one : {X : Type 0} (x y : X) → Contains (x ∷ []) y → x ≡ y
Contains-one x y c = ⊎_elim (λ e. e) (λ r. absurd (Contains-none y r)) (Contains-cases x [] y c)

pub Contains-slice_get : {X : Type 0} (xs : List X) (k : ℕ) (x : X) → slice_get xs k ≡ Some x → Contains xs x
Contains-slice_get xs k x e = (k, slice_get_within xs k x e, get_or_from_slice_get xs k x x e)

-- who acknowledged a later place acknowledged an earlier one

acks_down : (view k m j : ℕ) (p : Message) → m ≤ k → acks view k j p ≡ true → acks view m j p ≡ true
acks_down view k m j (PrepareOk from w l) h t =
    let a = and_parts (eqb from j && eqb w view) (leb k l) t in
    and_from _ _ a.0 (le-leb m l (omega (arith, leb-true k l a.1)))
acks_down view k m j (Prepare from w l c e) h t = absurd (false≢true t)
acks_down view k m j (Commit from w c) h t = absurd (false≢true t)
acks_down view k m j (StartViewChange from w) h t = absurd (false≢true t)
acks_down view k m j (DoViewChange from w u c l) h t = absurd (false≢true t)
acks_down view k m j (StartView from w c l) h t = absurd (false≢true t)
acks_down view k m j (GetState from w b) h t = absurd (false≢true t)
acks_down view k m j (NewState from w b c l) h t = absurd (false≢true t)

has_acked-down : (ps : List Message) (view k m j : ℕ) → m ≤ k → has_acked ps view k j ≡ true →
    has_acked ps view m j ≡ true
has_acked-down [] view k m j h t = t
has_acked-down (p ∷ ps) view k m j h t = ⊎_elim
    (λ a. or_left (acks view m j p) (has_acked ps view m j) (acks_down view k m j p h a))
    (λ b. or_right (acks view m j p) (has_acked ps view m j) (has_acked-down ps view k m j h b))
    (or_cases (acks view k j p) (has_acked ps view k j) t)

pub has_acked-more : (ps qs : List Message) (view m j : ℕ) → has_acked ps view m j ≡ true →
    has_acked (ps ++ qs) view m j ≡ true
has_acked-more ps qs view m j t = list_any-append (acks view m j) ps qs ∙ or_left _ _ t

pub has_acked-new : (ps qs : List Message) (view m j : ℕ) → has_acked qs view m j ≡ true →
    has_acked (ps ++ qs) view m j ≡ true
has_acked-new ps qs view m j t = list_any-append (acks view m j) ps qs ∙ or_right _ _ t

-- who acknowledged has sent a PrepareOk

pub own_ack : (j view k m : ℕ) → m ≤ k → acks view m j (PrepareOk j view k) ≡ true
own_ack j view k m l = and_from _ _ (and_from _ _ (eq-eqb j j refl) (eq-eqb view view refl)) (le-leb m k l)

abbrev pub SentOk : List Message → ℕ → ℕ → ℕ → Type 0
SentOk ps view m j = (k : ℕ) × (m ≤ k) × Contains ps (PrepareOk j view k)

acks_sent : (view m j : ℕ) (p : Message) → acks view m j p ≡ true → (k : ℕ) × (m ≤ k) × (p ≡ PrepareOk j view k)
acks_sent view m j (PrepareOk from w l) t =
    let a = and_parts (eqb from j && eqb w view) (leb m l) t in
    let b = and_parts (eqb from j) (eqb w view) a.0 in
    let e : from ≡ j = eqb-true from j b.0 in
    let f : w ≡ view = eqb-true w view b.1 in
    (l, leb-true m l a.1, cc)
acks_sent view m j (Prepare from w l c e) t = absurd (false≢true t)
acks_sent view m j (Commit from w c) t = absurd (false≢true t)
acks_sent view m j (StartViewChange from w) t = absurd (false≢true t)
acks_sent view m j (DoViewChange from w u c l) t = absurd (false≢true t)
acks_sent view m j (StartView from w c l) t = absurd (false≢true t)
acks_sent view m j (GetState from w b) t = absurd (false≢true t)
acks_sent view m j (NewState from w b c l) t = absurd (false≢true t)

pub has_acked-sent : (ps : List Message) (view m j : ℕ) → has_acked ps view m j ≡ true → SentOk ps view m j
has_acked-sent [] view m j t = absurd (false≢true t)
has_acked-sent (p ∷ ps) view m j t = ⊎_elim
    (λ a. let o = acks_sent view m j p a in (o.0, o.1, rw (← o.2) (Contains-here p ps)))
    (λ b. let o = has_acked-sent ps view m j b in (o.0, o.1, Contains-there p ps _ o.2))
    (or_cases (acks view m j p) (has_acked ps view m j) t)

pub sent-has_acked : (ps : List Message) (view m j : ℕ) → SentOk ps view m j → has_acked ps view m j ≡ true
sent-has_acked [] view m j o = absurd (Contains-none _ o.2)
sent-has_acked (p ∷ ps) view m j o = ⊎_elim
    (λ e. or_left (acks view m j p) (has_acked ps view m j) (rw e (own_ack j view o.0 m o.1)))
    (λ r. or_right (acks view m j p) (has_acked ps view m j) (sent-has_acked ps view m j (o.0, o.1, r)))
    (Contains-cases p ps _ o.2)

-- what is chosen

pub IsChosen-more : (n : ℕ) (ps qs : List Message) (view m : ℕ) → IsChosen n ps view m → IsChosen n (ps ++ qs) view m
IsChosen-more n ps qs view m c =
    record {
      quorum = omega (
        arith,
        c.quorum,
        tally_le n (has_acked ps view m) (has_acked (ps ++ qs) view m)
            (λ j t. has_acked-more ps qs view m j t),
      );
    }

pub IsChosen-down : (n : ℕ) (ps : List Message) (view k m : ℕ) → m ≤ k → IsChosen n ps view k → IsChosen n ps view m
IsChosen-down n ps view k m h c =
    record {
      quorum = omega (
        arith,
        c.quorum,
        tally_le n (has_acked ps view k) (has_acked ps view m)
            (λ j t. has_acked-down ps view k m j h t),
      );
    }

-- A commit of a view is backed: it is 0, or its place was chosen in the view or in an earlier one.
pub record IsBacked (n : ℕ) (ps : List Message) (view k : ℕ) : Type 0 where
  pub chosen : (k ≡ 0) ⊎ ((x : ℕ) × (x ≤ view) × IsChosen n ps x k)

pub IsBacked-zero : (n : ℕ) (ps : List Message) (view : ℕ) → IsBacked n ps view 0
IsBacked-zero n ps view = record { chosen = inl refl }

pub IsBacked-more : (n : ℕ) (ps qs : List Message) (view k : ℕ) → IsBacked n ps view k → IsBacked n (ps ++ qs) view k
IsBacked-more n ps qs view k b =
    record { chosen = ⊎_elim (λ z. inl z) (λ c. inr (c.0, c.1, IsChosen-more n ps qs c.0 k c.2)) b.chosen }

-- also of a later view, and of an earlier place
pub IsBacked-to : (n : ℕ) (ps : List Message) (w v k m : ℕ) → w ≤ v → m ≤ k → IsBacked n ps w k → IsBacked n ps v m
IsBacked-to n ps w v k m h l b =
    record {
      chosen = ⊎_elim (λ z. inl (omega arith))
          (λ c. inr (c.0, omega (arith, c.1), IsChosen-down n ps c.0 k m l c.2)) b.chosen;
    }

pub IsBacked-max : (n : ℕ) (ps : List Message) (view a b : ℕ) → IsBacked n ps view a → IsBacked n ps view b →
    IsBacked n ps view (max a b)
IsBacked-max n ps view a b p q = ⊎_elim
    (λ l. let e : max a b ≡ b = omega arith in rw e q)
    (λ l. let e : max a b ≡ a = omega arith in rw e p)
    (cases_lt a b)
