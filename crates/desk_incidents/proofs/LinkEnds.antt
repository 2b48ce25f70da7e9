-- The ends of links, and what a merge makes of them.
use Rattle.std.proofs.Common.{◌≡◌, ◌∙◌, ◌≤◌, ◌<◌, ◌≢◌, ◌⊎◌, inl, inr, ◌||◌, ◌&&◌, ◌==◌, ℕ, Bool, true, false}
use Rattle.std.proofs.Common.{cond, nat_le, nat_eq, refl, sym, ap, ap₂, arith}
use Rattle.std.specs.Cmp.{nat_eq_equiv}
use Rattle.std.proofs.lemmas.Bool.{eqb-true, eqb-false, eq-eqb, ne_eqb, le-leb, leb-true, leb-false, or_parts}
use Rattle.std.proofs.lemmas.Bool.{or_from, or_left, or_right, or_cases, cond_both, true≢false}
use Rattle.desk_incidents.specs.declared.incident.Linked.{Linked}
use Rattle.desk_types.specs.MergedNumber.{number_after_merge}
use Rattle.desk_incidents.specs.Links.{same_link, new_link, link_after_merge}
use Rattle.desk_incidents.specs.LinkTable.{touches, touches_either, far_end}

-- 1. the link of two numbers

or_swapped : (t u : Bool) → (t || u) ≡ (u || t)
or_swapped true true = refl
or_swapped true false = refl
or_swapped false true = refl
or_swapped false false = refl

touched : (t : Bool) (n x y : ℕ) →
    touches n (cond {A = Linked} t (record { incident = x; other = y }) (record { incident = y; other = x })) ≡
    ((x == n) || (y == n))
touched true n x y = refl
touched false n x y = or_swapped (y == n) (x == n)

pub touches-new_link : (n x y : ℕ) → touches n (new_link x y) ≡ ((x == n) || (y == n))
touches-new_link n x y = touched (nat_le x y) n x y

link_swapped : (m n : ℕ) (t u : Bool) → nat_le m n ≡ t → nat_le n m ≡ u →
    cond {A = Linked} t (record { incident = m; other = n }) (record { incident = n; other = m })
    ≡ cond u (record { incident = n; other = m }) (record { incident = m; other = n })
link_swapped m n true true e f = let same : m ≡ n = omega (arith, leb-true m n e, leb-true n m f) in rw same refl
link_swapped m n true false e f = refl
link_swapped m n false true e f = refl
link_swapped m n false false e f = absurd (omega (arith, leb-false m n e, leb-false n m f))

pub new_link-swapped : (m n : ℕ) → new_link m n ≡ new_link n m
new_link-swapped m n = link_swapped m n (nat_le m n) (nat_le n m) refl refl

link_ordered : (x y : ℕ) → (new_link x y).incident ≤ (new_link x y).other
link_ordered x y =
    cond_both (nat_le x y) (record { incident = x; other = y }) (record { incident = y; other = x })
    (λ (l : Linked). l.incident ≤ l.other)
    (λ t. leb-true x y t) (λ t. omega (arith, leb-false x y t))

-- a link whose ends are two numbers has the smaller first
pub link-ordered : (x y : ℕ) → ((new_link x y).incident == (new_link x y).other) ≡ false →
    (new_link x y).incident < (new_link x y).other
link-ordered x y h = omega (arith, link_ordered x y, eqb-false _ _ h)

self_ends : (t : Bool) (n : ℕ) →
    ((cond {A = Linked} t (record { incident = n; other = n }) (record { incident = n; other = n })).incident
    == (cond {A = Linked} t (record { incident = n; other = n }) (record { incident = n; other = n })).other) ≡ true
self_ends true n = eq-eqb n n refl
self_ends false n = eq-eqb n n refl

apart_ends : (x y : ℕ) (t : Bool) → x ≢ y →
    ((cond {A = Linked} t (record { incident = x; other = y }) (record { incident = y; other = x })).incident
    == (cond {A = Linked} t (record { incident = x; other = y }) (record { incident = y; other = x })).other) ≡ false
apart_ends x y true d = ne_eqb x y d
apart_ends x y false d = ne_eqb y x (λ e. d (sym e))

-- the ends of a link of two numbers are two
pub new_link-apart : (x y : ℕ) → x ≢ y → ((new_link x y).incident == (new_link x y).other) ≡ false
new_link-apart x y d = apart_ends x y (nat_le x y) d

same_case : (b c d : ℕ) (t u : Bool) → nat_le b c ≡ t → nat_le b d ≡ u →
    same_link (cond {A = Linked} t (record { incident = b; other = c }) (record { incident = c; other = b }))
    (cond {A = Linked} u (record { incident = b; other = d }) (record { incident = d; other = b })) ≡ nat_eq d c
same_case b c d true true e f =
    ap (λ t. t && (c == d)) (eq-eqb b b refl) ∙ nat_eq_equiv.symm c d
same_case b c d true false e f =
    ap (λ t. t && (c == b)) (ne_eqb b d (λ s. omega (arith, s, leb-false b d f)))
    ∙ sym (ne_eqb d c (λ s. omega (arith, s, leb-true b c e, leb-false b d f)))
same_case b c d false true e f =
    ap (λ t. t && (b == d)) (ne_eqb c b (λ s. omega (arith, s, leb-false b c e)))
    ∙ sym (ne_eqb d c (λ s. omega (arith, s, leb-false b c e, leb-true b d f)))
same_case b c d false false e f =
    ap (λ t. (c == d) && t) (eq-eqb b b refl) ∙ and_true (c == d) ∙ nat_eq_equiv.symm c d
  where
    and_true : (t : Bool) → (t && true) ≡ t
    and_true true = refl
    and_true false = refl

-- links of one incident are one where their other numbers are
pub same_link-beside : (b c d : ℕ) → same_link (new_link b c) (new_link b d) ≡ nat_eq d c
same_link-beside b c d = same_case b c d (nat_le b c) (nat_le b d) refl refl

link_is : (l : Linked) (x y : ℕ) → l.incident ≡ x → l.other ≡ y → x < y → l ≡ new_link x y
link_is l x y e f o =
    ap (λ n. record { incident = n; other = l.other }) e ∙ ap (λ n. record { incident = x; other = n }) f
    ∙ sym (ap (λ t. cond {A = Linked} t (record { incident = x; other = y }) (record { incident = y; other = x }))
    (le-leb x y (omega (arith, o))))

both_ends : (a b : ℕ) (l : Linked) → a ≢ b → l.incident < l.other →
    ((l.incident == a) ≡ true) ⊎ ((l.other == a) ≡ true) → ((l.incident == b) ≡ true) ⊎ ((l.other == b) ≡ true) →
    l ≡ new_link a b
both_ends a b l d o (inl e) (inl f) = absurd (d (sym (eqb-true _ _ e) ∙ eqb-true _ _ f))
both_ends a b l d o (inl e) (inr f) =
    let x : l.incident ≡ a = eqb-true _ _ e in let y : l.other ≡ b = eqb-true _ _ f in
    link_is l a b x y (omega (arith, x, y, o))
both_ends a b l d o (inr e) (inl f) =
    let x : l.incident ≡ b = eqb-true _ _ f in let y : l.other ≡ a = eqb-true _ _ e in
    link_is l b a x y (omega (arith, x, y, o)) ∙ new_link-swapped b a
both_ends a b l d o (inr e) (inr f) = absurd (d (sym (eqb-true _ _ e) ∙ eqb-true _ _ f))

-- the link that touches two incidents is the link of the two
pub touches-both : (a b : ℕ) (l : Linked) → a ≢ b → l.incident < l.other → touches a l ≡ true → touches b l ≡ true →
    l ≡ new_link a b
touches-both a b l d o s t = both_ends a b l d o (or_cases _ _ s) (or_cases _ _ t)

-- 2. a link after a merge

left_number : (a b x : ℕ) (t : Bool) → (x == a) ≡ t → a ≢ b → (cond t b x == a) ≡ false
left_number a b x true e d = ne_eqb b a (λ s. d (sym s))
left_number a b x false e d = e

pub touches-left : (a b : ℕ) (l : Linked) → a ≢ b → touches a (link_after_merge a b l) ≡ false
touches-left a b l d =
    touches-new_link a (number_after_merge a b l.incident) (number_after_merge a b l.other)
    ∙ or_from _ _ (left_number a b l.incident (l.incident == a) refl d)
    (left_number a b l.other (l.other == a) refl d)

preserved_number : (a b x : ℕ) (t : Bool) → (x == a) ≡ t → t ≡ false → cond t b x ≡ x
preserved_number a b x true e h = absurd (true≢false h)
preserved_number a b x false e h = refl

-- a link of others stays
pub link-preserved : (a b : ℕ) (l : Linked) → touches a l ≡ false → l.incident < l.other → link_after_merge a b l ≡ l
link-preserved a b l h o =
    let parts : ((l.incident == a) ≡ false) × ((l.other == a) ≡ false) = or_parts _ _ h in
    ap (λ x. new_link x (number_after_merge a b l.other))
    (preserved_number a b l.incident (l.incident == a) refl parts.0)
    ∙ ap (λ y. new_link l.incident y) (preserved_number a b l.other (l.other == a) refl parts.1)
    ∙ sym (link_is l l.incident l.other refl refl o)

moved_number : (a b x : ℕ) (t : Bool) → t ≡ true → cond t b x ≡ b
moved_number a b x true h = refl
moved_number a b x false h = absurd (true≢false (sym h))

far_is : (a b : ℕ) (l : Linked) (t : Bool) → ((l.incident == a) || (l.incident == b)) ≡ t →
    far_end a b l ≡ cond t l.other l.incident
far_is a b l t h = ap (λ u. cond u l.other l.incident) h

-- what a merge makes of a link of one of the two incidents: that of the one and of the far end
abbrev IsMovedLink : ℕ → ℕ → Linked → Type 0
IsMovedLink a b l = (link_after_merge a b l ≡ new_link b (far_end a b l)) × (far_end a b l ≢ b)

of_merged : (a b : ℕ) (l : Linked) → l.incident < l.other → touches b l ≡ false →
    ((l.incident == a) ≡ true) ⊎ ((l.other == a) ≡ true) → IsMovedLink a b l
of_merged a b l o h (inl e) =
    let parts : ((l.incident == b) ≡ false) × ((l.other == b) ≡ false) = or_parts _ _ h in
    let far : far_end a b l ≡ l.other = far_is a b l true (or_left _ _ e) in
    let apart : (l.other == a) ≡ false = ne_eqb _ _ (λ s. omega (arith, s, eqb-true _ _ e, o)) in (
      ap (λ x. new_link x (number_after_merge a b l.other)) (moved_number a b l.incident (l.incident == a) e)
          ∙ ap (λ y. new_link b y) (preserved_number a b l.other (l.other == a) refl apart ∙ sym far),
      λ s. eqb-false _ _ parts.1 (sym far ∙ s),
    )
of_merged a b l o h (inr e) =
    let parts : ((l.incident == b) ≡ false) × ((l.other == b) ≡ false) = or_parts _ _ h in
    let apart : (l.incident == a) ≡ false = ne_eqb _ _ (λ s. omega (arith, s, eqb-true _ _ e, o)) in
    let far : far_end a b l ≡ l.incident = far_is a b l false (or_from _ _ apart parts.0) in (
      ap (λ x. new_link x (number_after_merge a b l.other))
          (preserved_number a b l.incident (l.incident == a) refl apart)
          ∙ ap (λ y. new_link l.incident y) (moved_number a b l.other (l.other == a) e)
          ∙ new_link-swapped l.incident b ∙ ap (λ y. new_link b y) (sym far),
      λ s. eqb-false _ _ parts.0 (sym far ∙ s),
    )

of_other : (a b : ℕ) (l : Linked) → l.incident < l.other → touches a l ≡ false →
    ((l.incident == b) ≡ true) ⊎ ((l.other == b) ≡ true) → IsMovedLink a b l
of_other a b l o h (inl e) =
    let at : l.incident ≡ b = eqb-true _ _ e in
    let far : far_end a b l ≡ l.other = far_is a b l true (or_right (l.incident == a) _ e) in (
      link-preserved a b l h o ∙ link_is l l.incident l.other refl refl o ∙ ap (λ x. new_link x l.other) at
          ∙ ap (λ y. new_link b y) (sym far),
      λ s. omega (arith, s, far, at, o),
    )
of_other a b l o h (inr e) =
    let at : l.other ≡ b = eqb-true _ _ e in
    let parts : ((l.incident == a) ≡ false) × ((l.other == a) ≡ false) = or_parts _ _ h in
    let apart : (l.incident == b) ≡ false = ne_eqb _ _ (λ s. omega (arith, s, at, o)) in
    let far : far_end a b l ≡ l.incident = far_is a b l false (or_from _ _ parts.0 apart) in (
      link-preserved a b l h o ∙ link_is l l.incident l.other refl refl o ∙ ap (λ y. new_link l.incident y) at
          ∙ new_link-swapped l.incident b ∙ ap (λ y. new_link b y) (sym far),
      λ s. omega (arith, s, far, at, o),
    )

only_one : (t u : Bool) → t ≡ true → (t && u) ≡ false → u ≡ false
only_one true u h e = e
only_one false u h e = absurd (true≢false (sym h))

only_other : (t u : Bool) → u ≡ true → (t && u) ≡ false → t ≡ false
only_other true u h e = absurd (true≢false (sym h ∙ e))
only_other false u h e = refl

moved_either : (a b : ℕ) (l : Linked) → l.incident < l.other → (touches a l && touches b l) ≡ false →
    (touches b l ≡ true) ⊎ (touches a l ≡ true) → IsMovedLink a b l
moved_either a b l o n (inl h) = of_other a b l o (only_other _ _ h n) (or_cases _ _ h)
moved_either a b l o n (inr h) = of_merged a b l o (only_one _ _ h n) (or_cases _ _ h)

pub link-moved : (a b : ℕ) (l : Linked) → l.incident < l.other → (touches a l && touches b l) ≡ false →
    touches_either b a l ≡ true → (link_after_merge a b l ≡ new_link b (far_end a b l)) × (far_end a b l ≢ b)
link-moved a b l o n h = moved_either a b l o n (or_cases _ _ h)

moved_ends : (a b x y : ℕ) (t : Bool) →
    link_after_merge a b (cond {A = Linked} t (record { incident = x; other = y })
    (record { incident = y; other = x })) ≡ new_link (number_after_merge a b x) (number_after_merge a b y)
moved_ends a b x y true = refl
moved_ends a b x y false = new_link-swapped (number_after_merge a b y) (number_after_merge a b x)

all_moved : (b : ℕ) (t : Bool) → cond t b b ≡ b
all_moved b true = refl
all_moved b false = refl

-- the link between two incidents is one of the one with itself once they are merged
pub link-closed : (a b : ℕ) →
    ((link_after_merge a b (new_link a b)).incident == (link_after_merge a b (new_link a b)).other) ≡ true
link-closed a b =
    let one : link_after_merge a b (new_link a b) ≡ new_link b b =
    moved_ends a b a b (nat_le a b)
    ∙ ap (λ x. new_link x (number_after_merge a b b)) (moved_number a b a (a == a) (eq-eqb a a refl))
    ∙ ap (λ y. new_link b y) (all_moved b (b == a)) in
    ap (λ (l : Linked). l.incident == l.other) one ∙ self_ends (nat_le b b) b

-- 3. other incidents

same_other : (a b n x : ℕ) (t : Bool) → (x == a) ≡ t → (a == n) ≡ false → (b == n) ≡ false →
    (cond t b x == n) ≡ (x == n)
same_other a b n x true e f g = g ∙ sym (ap (λ y. y == n) (eqb-true x a e) ∙ f)
same_other a b n x false e f g = refl

-- a link touches another incident after a merge where it did before
pub touches-elsewhere : (a b n : ℕ) (l : Linked) → n ≢ a → n ≢ b → touches n (link_after_merge a b l) ≡ touches n l
touches-elsewhere a b n l d e =
    touches-new_link n (number_after_merge a b l.incident) (number_after_merge a b l.other)
    ∙ ap₂ (λ t u. t || u)
    (same_other a b n l.incident (l.incident == a) refl (ne_eqb a n (λ s. d (sym s))) (ne_eqb b n (λ s. e (sym s))))
    (same_other a b n l.other (l.other == a) refl (ne_eqb a n (λ s. d (sym s))) (ne_eqb b n (λ s. e (sym s))))
