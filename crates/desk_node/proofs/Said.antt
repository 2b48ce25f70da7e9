-- What a node heard is what the packets say, packet by packet.
use Rattle.std.proofs.Common.{◌≡◌, ℕ, zero, suc, ◌<◌, ◌≤◌, ◌⊎◌, inl, inr, Bool, true, false, cond, ◌||◌, ◌&&◌}
use Rattle.std.proofs.Common.{eqb, leb, max, List, [], ◌∷◌, length, refl, sym, ap, ◌∙◌, arith, Option, Some, None}
use Rattle.std.proofs.Common.{get_or, le-leb}
use Rattle.std.specs.Prelude.{replicate, slice_index_or}
use Rattle.std.proofs.lemmas.Bool.{cases_lt, eqb-true, eqb-false, leb-true, leb-false, lt-leb}
use Rattle.std.proofs.lemmas.List.{get_or-set_same, get_or-set_other, length-set, get_or-replicate, ext_get_or}
use Rattle.std.specs.Option.{option_or}
use Rattle.desk_types.specs.declared.packet.Message.{Message}
use Rattle.desk_types.specs.declared.packet.Message.TheVariants.{Prepare, PrepareOk, Commit, StartViewChange}
use Rattle.desk_types.specs.declared.packet.Message.TheVariants.{DoViewChange, StartView, GetState, NewState}
use Rattle.desk_view_change.specs.declared.offer.Offer.{Offer}
use Rattle.desk_normal.specs.Acknowledgements.{places_with, places_with_packet, places_after}
use Rattle.desk_view_change.specs.Heard.{ViewChangeHeard, with_asker, with_offer, earlier_offer}
use Rattle.desk_view_change.specs.Heard.{view_change_with_packet, view_change_after}
use Rattle.desk_node.specs.Heard.{Heard, HasHeardRows, heard_of}
use Rattle.desk_node.specs.Laws.{RowsOf}
use Rattle.desk_node.specs.Said.{acks, has_acked, asks, has_asked, offer_in, first_offer, SaySame}

or_assoc : (a b c : Bool) → ((a || b) || c) ≡ (a || (b || c))
or_assoc true b c = refl
or_assoc false b c = refl

or_false : (a : Bool) → (a || false) ≡ a
or_false true = refl
or_false false = refl

and_false : (a : Bool) → (a && false) ≡ false
and_false true = refl
and_false false = refl

le_max : (m a p : ℕ) → leb m (max a p) ≡ (leb m a || leb m p)
le_max m a p = by_test (leb m a) refl (leb m p) refl
  where
    by_test : (y : Bool) → leb m a ≡ y → (z : Bool) → leb m p ≡ z → leb m (max a p) ≡ (y || z)
    by_test true e z f = le-leb m (max a p) (omega (arith, leb-true m a e))
    by_test false e true f = le-leb m (max a p) (omega (arith, leb-true m p f))
    by_test false e false f = lt-leb m (max a p) (omega (arith, leb-false m a e, leb-false m p f))

ok_case : (j m from place : ℕ) (h : List ℕ) → j < length h → (a : Bool) → eqb from j ≡ a → (b : Bool) →
    leb m (slice_index_or (cond b (places_with from place h) h) j 0)
    ≡ (leb m (slice_index_or h j 0) || ((a && b) && leb m place))
ok_case j m from place h l true e true =
    let same : from ≡ j = eqb-true from j e in
    rw same (ap (λ x. leb m x) (get_or-set_same h j (max (get_or h j 0) place) 0 l) ∙ le_max m (get_or h j 0) place)
ok_case j m from place h l true e false = sym (or_false _)
ok_case j m from place h l false e true =
    ap (λ x. leb m x) (get_or-set_other h from j (max (get_or h from 0) place) 0 (λ q. eqb-false from j e (sym q)))
    ∙ sym (or_false _)
ok_case j m from place h l false e false = sym (or_false _)

one_ok : (v j m : ℕ) (p : Message) (h : List ℕ) → j < length h → leb m (slice_index_or (places_with_packet v p h) j 0)
    ≡ (leb m (slice_index_or h j 0) || acks v m j p)
one_ok v j m (PrepareOk from w place) h l = ok_case j m from place h l (eqb from j) refl (eqb w v)
one_ok v j m (StartViewChange from w) h l = sym (or_false _)
one_ok v j m (DoViewChange from w normal commit log) h l = sym (or_false _)
one_ok v j m (Prepare from w place commit entry) h l = sym (or_false _)
one_ok v j m (Commit from w commit) h l = sym (or_false _)
one_ok v j m (StartView from w commit log) h l = sym (or_false _)
one_ok v j m (GetState from w base) h l = sym (or_false _)
one_ok v j m (NewState from w base commit entries) h l = sym (or_false _)

ok_length_case : (from place : ℕ) (h : List ℕ) (b : Bool) → length (cond b (places_with from place h) h) ≡ length h
ok_length_case from place h true = length-set h from _
ok_length_case from place h false = refl

pub ok_length : (v : ℕ) (p : Message) (h : List ℕ) → length (places_with_packet v p h) ≡ length h
ok_length v (PrepareOk from w place) h = ok_length_case from place h (eqb w v)
ok_length v (StartViewChange from w) h = refl
ok_length v (DoViewChange from w normal commit log) h = refl
ok_length v (Prepare from w place commit entry) h = refl
ok_length v (Commit from w commit) h = refl
ok_length v (StartView from w commit log) h = refl
ok_length v (GetState from w base) h = refl
ok_length v (NewState from w base commit entries) h = refl

acked_more : (v j m : ℕ) (ps : List Message) (h : List ℕ) → j < length h →
    leb m (slice_index_or (places_after v ps h) j 0) ≡ (leb m (slice_index_or h j 0) || has_acked ps v m j)
acked_more v j m [] h l = sym (or_false _)
acked_more v j m (p ∷ ps) h l =
    acked_more v j m ps (places_with_packet v p h) (omega (arith, l, ok_length v p h))
    ∙ (ap (λ b. b || has_acked ps v m j) (one_ok v j m p h l) ∙ or_assoc (leb m (slice_index_or h j 0)) (acks v m j p)
    (has_acked ps v m j))

length_replicate : {A : Type 0} (n : ℕ) (a : A) → length (replicate n a) ≡ n
length_replicate zero a = refl
length_replicate (suc n) a = ap suc (length_replicate n a)

-- A node places_with a place just where its greatest place is no less.
pub acked_says : (n v j m : ℕ) (ps : List Message) → j < n → 1 ≤ m → leb m (slice_index_or (heard_of n v ps).places j 0)
    ≡ has_acked ps v m j
acked_says n v j m ps l k =
    let zero_there : slice_index_or (replicate n 0) j 0 ≡ 0 = get_or-replicate n j 0 0 l in
    let none : leb m (slice_index_or (replicate n 0) j 0) ≡ false = ap (λ x. leb m x) zero_there ∙ lt-leb m 0 k in
    let long : length (replicate n 0) ≡ n = length_replicate {A = ℕ} n 0 in
    let within : j < length (replicate n 0) = omega (arith, l, long) in
    acked_more v j m ps (replicate n 0) within ∙ ap (λ b. b || has_acked ps v m j) none

-- who asked

ask_case : (j from : ℕ) (h : List Bool) → j < length h → (a : Bool) → eqb from j ≡ a → (b : Bool) →
    (x : ViewChangeHeard) → x.askers ≡ h →
    slice_index_or (cond b (with_asker from x) x).askers j false ≡ (slice_index_or h j false || (a && b))
ask_case j from h l true e true x q =
    let same : from ≡ j = eqb-true from j e in
    rw (same, q) (get_or-set_same h j true false l ∙ sym (or_true (get_or h j false)))
  where
    or_true : (a : Bool) → (a || true) ≡ true
    or_true true = refl
    or_true false = refl
ask_case j from h l true e false x q = rw q (sym (or_false _))
ask_case j from h l false e true x q =
    rw q (get_or-set_other h from j true false (λ z. eqb-false from j e (sym z)) ∙ sym (or_false _))
ask_case j from h l false e false x q = rw q (sym (or_false _))

offer_asked : (from : ℕ) (o : Offer) (x : ViewChangeHeard) (b : Bool) → (cond b (with_offer from o x) x).askers
    ≡ x.askers
offer_asked from o x true = refl
offer_asked from o x false = refl

one_ask : (v j : ℕ) (p : Message) (x : ViewChangeHeard) → j < length x.askers →
    slice_index_or (view_change_with_packet v p x).askers j false ≡ (slice_index_or x.askers j false || asks v j p)
one_ask v j (StartViewChange from w) x l = ask_case j from x.askers l (eqb from j) refl (eqb w v) x refl
one_ask v j (DoViewChange from w normal commit log) x l =
    ap (λ xs. slice_index_or xs j false) (offer_asked from _ x (eqb w v)) ∙ sym (or_false _)
one_ask v j (PrepareOk from w place) x l = sym (or_false _)
one_ask v j (Prepare from w place commit entry) x l = sym (or_false _)
one_ask v j (Commit from w commit) x l = sym (or_false _)
one_ask v j (StartView from w commit log) x l = sym (or_false _)
one_ask v j (GetState from w base) x l = sym (or_false _)
one_ask v j (NewState from w base commit entries) x l = sym (or_false _)

ask_length_case : (from : ℕ) (x : ViewChangeHeard) (b : Bool) → length (cond b (with_asker from x) x).askers
    ≡ length x.askers
ask_length_case from x true = length-set x.askers from true
ask_length_case from x false = refl

pub ask_length : (v : ℕ) (p : Message) (x : ViewChangeHeard) → length (view_change_with_packet v p x).askers
    ≡ length x.askers
ask_length v (StartViewChange from w) x = ask_length_case from x (eqb w v)
ask_length v (DoViewChange from w normal commit log) x = ap (λ xs. length xs) (offer_asked from _ x (eqb w v))
ask_length v (PrepareOk from w place) x = refl
ask_length v (Prepare from w place commit entry) x = refl
ask_length v (Commit from w commit) x = refl
ask_length v (StartView from w commit log) x = refl
ask_length v (GetState from w base) x = refl
ask_length v (NewState from w base commit entries) x = refl

asked_more : (v j : ℕ) (ps : List Message) (x : ViewChangeHeard) → j < length x.askers →
    slice_index_or (view_change_after v ps x).askers j false ≡ (slice_index_or x.askers j false || has_asked ps v j)
asked_more v j [] x l = sym (or_false _)
asked_more v j (p ∷ ps) x l =
    asked_more v j ps (view_change_with_packet v p x) (omega (arith, l, ask_length v p x))
    ∙ (ap (λ b. b || has_asked ps v j) (one_ask v j p x l) ∙ or_assoc (slice_index_or x.askers j false) (asks v j p)
    (has_asked ps v j))

pub asked_says : (n v j : ℕ) (ps : List Message) → j < n → slice_index_or (heard_of n v ps).view_change.askers j false
    ≡ has_asked ps v j
asked_says n v j ps l =
    asked_more v j ps _ (omega (arith, l, length_replicate n false))
    ∙ ap (λ b. b || has_asked ps v j) (get_or-replicate n j false false l)

-- first offers

else_assoc : (a b c : Option Offer) → option_or (option_or a b) c ≡ option_or a (option_or b c)
else_assoc None b c = refl
else_assoc (Some a) b c = refl

else_none : (a : Option Offer) → option_or a None ≡ a
else_none None = refl
else_none (Some a) = refl

first_else : (a : Option Offer) (o : Offer) → Some (earlier_offer a o) ≡ option_or a (Some o)
first_else None o = refl
first_else (Some a) o = refl

offer_case : (j from : ℕ) (o : Offer) (x : ViewChangeHeard) → j < length x.offers → (a : Bool) → eqb from j ≡ a →
    (b : Bool) →
    slice_index_or (cond b (with_offer from o x) x).offers j None ≡ option_or (slice_index_or x.offers j None)
    (cond (a && b) (Some o) None)
offer_case j from o x l true e true =
    let same : from ≡ j = eqb-true from j e in
    rw same (get_or-set_same x.offers j (Some (earlier_offer (get_or x.offers j None) o)) None l
    ∙ first_else (get_or x.offers j None) o)
offer_case j from o x l true e false = sym (else_none _)
offer_case j from o x l false e true = get_or-set_other x.offers from j _ None (λ z. eqb-false from j e (sym z))
    ∙ sym (else_none _)
offer_case j from o x l false e false = sym (else_none _)

ask_offers : (from : ℕ) (x : ViewChangeHeard) (b : Bool) → (cond b (with_asker from x) x).offers ≡ x.offers
ask_offers from x true = refl
ask_offers from x false = refl

one_offer : (v j : ℕ) (p : Message) (x : ViewChangeHeard) → j < length x.offers →
    slice_index_or (view_change_with_packet v p x).offers j None ≡ option_or (slice_index_or x.offers j None)
    (offer_in v j p)
one_offer v j (DoViewChange from w normal commit log) x l = offer_case j from _ x l (eqb from j) refl (eqb w v)
one_offer v j (StartViewChange from w) x l = ap (λ xs. slice_index_or xs j None) (ask_offers from x (eqb w v))
    ∙ sym (else_none _)
one_offer v j (PrepareOk from w place) x l = sym (else_none _)
one_offer v j (Prepare from w place commit entry) x l = sym (else_none _)
one_offer v j (Commit from w commit) x l = sym (else_none _)
one_offer v j (StartView from w commit log) x l = sym (else_none _)
one_offer v j (GetState from w base) x l = sym (else_none _)
one_offer v j (NewState from w base commit entries) x l = sym (else_none _)

offer_length_case : (from : ℕ) (o : Offer) (x : ViewChangeHeard) (b : Bool) →
    length (cond b (with_offer from o x) x).offers ≡ length x.offers
offer_length_case from o x true = length-set x.offers from _
offer_length_case from o x false = refl

pub offer_length : (v : ℕ) (p : Message) (x : ViewChangeHeard) → length (view_change_with_packet v p x).offers
    ≡ length x.offers
offer_length v (DoViewChange from w normal commit log) x = offer_length_case from _ x (eqb w v)
offer_length v (StartViewChange from w) x = ap (λ xs. length xs) (ask_offers from x (eqb w v))
offer_length v (PrepareOk from w place) x = refl
offer_length v (Prepare from w place commit entry) x = refl
offer_length v (Commit from w commit) x = refl
offer_length v (StartView from w commit log) x = refl
offer_length v (GetState from w base) x = refl
offer_length v (NewState from w base commit entries) x = refl

offers_more : (v j : ℕ) (ps : List Message) (x : ViewChangeHeard) → j < length x.offers →
    slice_index_or (view_change_after v ps x).offers j None ≡ option_or (slice_index_or x.offers j None)
    (first_offer ps v j)
offers_more v j [] x l = sym (else_none _)
offers_more v j (p ∷ ps) x l =
    offers_more v j ps (view_change_with_packet v p x) (omega (arith, l, offer_length v p x))
    ∙ (ap (λ b. option_or b (first_offer ps v j)) (one_offer v j p x l) ∙ else_assoc (slice_index_or x.offers j None)
    (offer_in v j p) (first_offer ps v j))

pub offers_say : (n v j : ℕ) (ps : List Message) → j < n → slice_index_or (heard_of n v ps).view_change.offers j None
    ≡ first_offer ps v j
offers_say n v j ps l =
    offers_more v j ps _ (omega (arith, l, length_replicate {A = Option Offer} n None))
    ∙ ap (λ b. option_or b (first_offer ps v j)) (get_or-replicate n j None None l)

-- Two lists say the same, packet by packet, where what is heard of them is the same.

same_place : (a b : ℕ) → ((m : ℕ) → 1 ≤ m → leb m a ≡ leb m b) → a ≡ b
same_place a b h = by_order (cases_lt a b) (cases_lt b a)
  where
    by_order : (a < b) ⊎ (b ≤ a) → (b < a) ⊎ (a ≤ b) → a ≡ b
    by_order (inl l) q = absurd (omega (arith, l, leb-true b a (h b (omega (arith, l)) ∙ le-leb b b (omega arith))))
    by_order (inr l) (inl q) = absurd
        (omega (arith, q, leb-true a b (sym (h a (omega (arith, q))) ∙ le-leb a a (omega arith))))
    by_order (inr l) (inr q) = omega (arith, l, q)

oks_length : (v : ℕ) (ps : List Message) (h : List ℕ) → length (places_after v ps h) ≡ length h
oks_length v [] h = refl
oks_length v (p ∷ ps) h = oks_length v ps (places_with_packet v p h) ∙ ok_length v p h

asks_length : (v : ℕ) (ps : List Message) (x : ViewChangeHeard) → length (view_change_after v ps x).askers
    ≡ length x.askers
asks_length v [] x = refl
asks_length v (p ∷ ps) x = asks_length v ps (view_change_with_packet v p x) ∙ ask_length v p x

slots_length : (v : ℕ) (ps : List Message) (x : ViewChangeHeard) → length (view_change_after v ps x).offers
    ≡ length x.offers
slots_length v [] x = refl
slots_length v (p ∷ ps) x = slots_length v ps (view_change_with_packet v p x) ∙ offer_length v p x

pub rows_stand : (n v : ℕ) (ps : List Message) → HasHeardRows n (heard_of n v ps)
rows_stand n v ps = record {
  places = oks_length v ps (replicate n 0) ∙ length_replicate {A = ℕ} n 0;
  view_change = record {
    askers = asks_length v ps _ ∙ length_replicate {A = Bool} n false;
    offers = slots_length v ps _ ∙ length_replicate {A = Option Offer} n None;
  };
}

pub rows_say : (n v : ℕ) (ps : List Message) (j : ℕ) → j < n → RowsOf n v ps j
rows_say n v ps j l = record {
  acknowledged = λ m k. acked_says n v j m ps l k;
  asked = asked_says n v j ps l;
  offered = offers_say n v j ps l;
}

pub same_heard : (n v : ℕ) (ps qs : List Message) → SaySame n v ps qs → heard_of n v ps ≡ heard_of n v qs
same_heard n v ps qs s =
    let rows : HasHeardRows n (heard_of n v ps) = rows_stand n v ps in
    let others : HasHeardRows n (heard_of n v qs) = rows_stand n v qs in
    let acked : (heard_of n v ps).places ≡ (heard_of n v qs).places =
    ext_get_or 0 (heard_of n v ps).places (heard_of n v qs).places (rows.places ∙ sym others.places)
    (λ j l. same_place (get_or (heard_of n v ps).places j 0) (get_or (heard_of n v qs).places j 0) (λ m k.
    let low : j < n = omega (arith, l, rows.places) in
    acked_says n v j m ps low k ∙ (s.acked j m low k ∙ sym (acked_says n v j m qs low k)))) in
    let asked : (heard_of n v ps).view_change.askers ≡ (heard_of n v qs).view_change.askers =
    ext_get_or false (heard_of n v ps).view_change.askers (heard_of n v qs).view_change.askers
    (rows.view_change.askers ∙ sym others.view_change.askers)
    (λ j l. let low : j < n = omega (arith, l, rows.view_change.askers) in
    asked_says n v j ps low ∙ (s.asked j low ∙ sym (asked_says n v j qs low))) in
    let offers : (heard_of n v ps).view_change.offers ≡ (heard_of n v qs).view_change.offers =
    ext_get_or None (heard_of n v ps).view_change.offers (heard_of n v qs).view_change.offers
    (rows.view_change.offers ∙ sym others.view_change.offers)
    (λ j l. let low : j < n = omega (arith, l, rows.view_change.offers) in
    offers_say n v j ps low ∙ (s.offers j low ∙ sym (offers_say n v j qs low))) in
    ap (λ (x : List ℕ). record { places = x; view_change = (heard_of n v ps).view_change }) acked
    ∙ (ap (λ (x : List Bool). record {
      places = (heard_of n v qs).places;
      view_change =
          record { askers = x; offers = (heard_of n v ps).view_change.offers };
    }) asked
    ∙ ap (λ (x : List (Option Offer)). record {
      places = (heard_of n v qs).places;
      view_change =
          record { askers = (heard_of n v qs).view_change.askers; offers = x };
    }) offers)

pub heard_same : (n v : ℕ) (ps qs : List Message) → heard_of n v ps ≡ heard_of n v qs → SaySame n v ps qs
heard_same n v ps qs e = record {
  acked = λ j m l k. sym (acked_says n v j m ps l k)
      ∙ (ap (λ (h : Heard). leb m (slice_index_or h.places j 0)) e ∙ acked_says n v j m qs l k);
  asked = λ j l. sym (asked_says n v j ps l)
      ∙ (ap (λ (h : Heard). slice_index_or h.view_change.askers j false) e ∙ asked_says n v j qs l);
  offers = λ j l. sym (offers_say n v j ps l)
      ∙ (ap (λ (h : Heard). slice_index_or h.view_change.offers j None) e ∙ offers_say n v j qs l);
}
