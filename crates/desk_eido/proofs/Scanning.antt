-- The members of a copied object are found by their names.
use Rattle.std.proofs.Common.{◌≡◌, ◌<◌, ◌≤◌, ℕ, zero, suc, ◌+◌, ◌-◌, Bool, true, false, cond, List, length, Option}
use Rattle.std.proofs.Common.{Some, None, Ordering, refl, sym, ap, ap₂, subst, ◌∙◌, arith, length-append, le-ltb}
use Rattle.std.proofs.Common.{lt-ltb}
use Rattle.std.specs.Prelude.{if◌then◌else◌, option_and_then}
use Rattle.std.specs.Ordering.{nat_cmp, match_ordering, is_eq}
use Rattle.std.specs.declared.cmp.Ordering.TheVariants.{Less, Equal, Greater}
use Rattle.std.specs.Cmp.Lexicographic.{slice_cmp}
use Rattle.std.specs.Str.{bytes_eq}
use Rattle.std.proofs.lemmas.Map.Text.{is_eq-slice_cmp}
use Rattle.std.proofs.lemmas.Slice.Eq.{bytes_eq-Decides}
use Rattle.serde_json.specs.Data.{Data, object, Members, no_members, member}
use Rattle.serde_json.specs.Find.{get_member}
use Rattle.desk_arena.specs.Contents.{Contents, text_at, with_text}
use Rattle.desk_arena.specs.declared.text.Text.{Text}
use Rattle.desk_eido.specs.Copied.{IsPartOf, no_name, next_text, with_copy, with_members}
use Rattle.desk_eido.specs.Document.{node_at, content_start, seen_if, seen_before, seen_under, AreHeld, IsHeldDocument}
use Rattle.desk_eido.specs.Document.{last_before, last_under, HasDistinctMembers}
use Rattle.desk_eido.specs.Names.{HaveDistinctNames}
use Rattle.desk_eido.specs.Seen.{Seen, seen}
use Rattle.desk_eido.specs.Utf8.{MembersHaveUtf8Texts}
use Rattle.desk_eido.proofs.Growing.{IsPartOf-trans, IsPartOf-with_node, IsPartOf-with_copy, IsPartOf-with_members}
use Rattle.desk_eido.proofs.Growing.{HoldsText-next_text, text_at-IsPartOf, text_at-next_text}
use Rattle.desk_eido.proofs.Nodes.{length-with_copy, inside-longer, node_at-with_copy, content_start-own_node}
use Rattle.desk_eido.proofs.Nodes.{node_name-own_node, seen_node-own_node, IsHeld-with_copy}

abbrev members_count : Members → ℕ
members_count no_members = 0
members_count (member k d ms) = suc (members_count ms)

count-le : (ms : Members) (a : Contents) → members_count ms + length a.nodes ≤ length (with_members ms a).nodes
count-le no_members a = omega arith
count-le (member k d ms) a =
    let named = with_text a k in let there = with_copy d (next_text a k) named in
    omega (arith, count-le ms there, length-with_copy d (next_text a k) named, inside-longer d named)

-- what is seen of the first member of a name; what was found where there is none
abbrev first_seen : List ℕ → Members → Option Seen → Option Seen
first_seen name no_members found = found
first_seen name (member k d ms) found = if bytes_eq name k then seen d else first_seen name ms found

-- what is seen of the last member of a name; what was found where there is none
abbrev last_seen : List ℕ → Members → Option Seen → Option Seen
last_seen name no_members found = found
last_seen name (member k d ms) found = last_seen name ms (if bytes_eq name k then seen d else found)

-- what is seen under a name of the member that was copied last
seen_if-with_copy : (name key : List ℕ) (d : Data) (a b : Contents) (found : Option Seen) → let there =
    with_copy d (next_text a key) (with_text a key) in
    IsPartOf there b → seen_if b name (node_at b (length there.nodes - 1)) found ≡ cond (bytes_eq name key)
    (seen d) found
seen_if-with_copy name key d a b found g =
    let named = with_text a key in let t = next_text a key in
    let up : IsPartOf named b = IsPartOf-trans named (with_copy d t named) b (IsPartOf-with_copy d t named) g in
    let key_is : text_at b t ≡ key =
    text_at-IsPartOf named b t up (HoldsText-next_text a key) ∙ text_at-next_text a key in
    ap (λ node. seen_if b name node found) (node_at-with_copy d t named b g)
    ∙ ap₂ (λ (m : Text) (s : Option Seen). cond (bytes_eq name (text_at b m)) s found) (node_name-own_node d t named)
    (seen_node-own_node d t named b g)
    ∙ ap (λ bytes. cond (bytes_eq name bytes) (seen d) found) key_is

start-with_copy : (d : Data) (key : List ℕ) (a b : Contents) → let there =
    with_copy d (next_text a key) (with_text a key) in
    IsPartOf there b → content_start (node_at b (length there.nodes - 1)) ≡ length a.nodes
start-with_copy d key a b g =
    rw (node_at-with_copy d (next_text a key) (with_text a key) b g)
    (content_start-own_node d (next_text a key) (with_text a key))

module _ (start : ℕ) where
  seen-members : (name : List ℕ) (ms : Members) (a b : Contents) → IsPartOf (with_members ms a) b →
      start ≤ length a.nodes → (k : ℕ) (found : Option Seen)
      → seen_before (members_count ms + k) b start name
      (length (with_members ms a).nodes) found ≡ seen_before k b start name (length a.nodes)
      (first_seen name ms found)
  seen-members name no_members a b g le k found = let e : 0 + k ≡ k = omega arith in ap
      (λ n. seen_before n b start name (length a.nodes) found) e
  seen-members name (member key d ms) a b g le k found =
      let named = with_text a key in
      let t = next_text a key in let there = with_copy d t named in let n = length there.nodes in
      let e : suc (members_count ms) + k ≡ members_count ms + suc k = omega arith in
      let longer : start < n = omega (arith, length-with_copy d t named, inside-longer d named) in
      let up : IsPartOf there b = IsPartOf-trans there (with_members ms there) b (IsPartOf-with_members ms there) g in
      let then_found : Option Seen = first_seen name ms found in
      ap (λ i. seen_before i b start name (length (with_members ms there).nodes) found) e
      ∙ seen-members name ms there b g (omega arith) (suc k) found
      ∙ rw (lt-ltb start n longer) refl
      ∙ ap₂ (λ s f. seen_before k b start name s f) (start-with_copy d key a b up)
      (seen_if-with_copy name key d a b then_found up)

  last-members : (name : List ℕ) (ms : Members) (a b : Contents) → IsPartOf (with_members ms a) b →
      start ≤ length a.nodes → (k : ℕ) →
      last_before (members_count ms + k) b start name (length (with_members ms a).nodes)
      ≡ last_seen name ms (last_before k b start name (length a.nodes))
  last-members name no_members a b g le k =
      let e : 0 + k ≡ k = omega arith in ap (λ n. last_before n b start name (length a.nodes)) e
  last-members name (member key d ms) a b g le k =
      let named = with_text a key in
      let t = next_text a key in let there = with_copy d t named in let n = length there.nodes in
      let e : suc (members_count ms) + k ≡ members_count ms + suc k = omega arith in
      let longer : start < n = omega (arith, length-with_copy d t named, inside-longer d named) in
      let up : IsPartOf there b = IsPartOf-trans there (with_members ms there) b (IsPartOf-with_members ms there) g in
      let node = node_at b (n - 1) in
      let step : last_before (suc k) b start name n ≡ seen_if b name node
      (last_before k b start name (content_start node)) =
      rw (lt-ltb start n longer) refl in
      ap (λ i. last_before i b start name (length (with_members ms there).nodes)) e
      ∙ last-members name ms there b g (omega arith) (suc k)
      ∙ ap (last_seen name ms) (step
      ∙ ap (λ s. seen_if b name node (last_before k b start name s)) (start-with_copy d key a b up)
      ∙ seen_if-with_copy name key d a b (last_before k b start name (length a.nodes)) up)

  held-members : (ms : Members) (a b : Contents) → IsPartOf (with_members ms a) b → MembersHaveUtf8Texts ms →
      start ≤ length a.nodes → (k : ℕ)
      → AreHeld k b start (length a.nodes) → AreHeld (members_count ms + k) b start (length (with_members ms a).nodes)
  held-members no_members a b g u le k h = let e : k ≡ 0 + k = omega arith in rw (← e) h
  held-members (member key d ms) a b g u le k h =
      let named = with_text a key in
      let t = next_text a key in let there = with_copy d t named in let n = length there.nodes in
      let e : members_count ms + suc k ≡ suc (members_count ms) + k = omega arith in
      let up : IsPartOf there b = IsPartOf-trans there (with_members ms there) b (IsPartOf-with_members ms there) g in
      rw (← e) (held-members ms there b g u.1 (omega (arith, length-with_copy d t named, inside-longer d named))
      (suc k)
      (λ lt. (IsHeld-with_copy d key a b up u.0, rw (start-with_copy d key a b up) h)))

seen_before-end : (n : ℕ) (b : Contents) (start end : ℕ) (name : List ℕ) (found : Option Seen) → end ≤ start →
    seen_before n b start name end found ≡ found
seen_before-end zero b start end name found le = refl
seen_before-end (suc n) b start end name found le = rw (le-ltb start end le) refl

last_before-end : (n : ℕ) (b : Contents) (start end : ℕ) (name : List ℕ) → end ≤ start →
    last_before n b start name end ≡ None
last_before-end zero b start end name le = refl
last_before-end (suc n) b start end name le = rw (le-ltb start end le) refl

AreHeld-end : (n : ℕ) (b : Contents) (start end : ℕ) → end ≤ start → AreHeld n b start end
AreHeld-end zero b start end le = le
AreHeld-end (suc n) b start end le = λ lt. absurd (omega (arith, lt, le))

at_equal : {A : Type 0} (o : Ordering) (x y : A) → match_ordering o x y x ≡ cond (is_eq o) y x
at_equal Less x y = refl
at_equal Equal x y = refl
at_equal Greater x y = refl

seen-cond : (b : Bool) (d : Data) (o : Option Data) →
    option_and_then seen (cond b (Some d) o) ≡ cond b (seen d) (option_and_then seen o)
seen-cond true d o = refl
seen-cond false d o = refl

first_seen-get : (name : List ℕ) (ms : Members) → first_seen name ms None ≡ option_and_then seen (get_member name ms)
first_seen-get name no_members = refl
first_seen-get name (member key d ms) =
    let rest = get_member name ms in
    ap (cond (bytes_eq name key) (seen d)) (first_seen-get name ms)
    ∙ sym (seen-cond (bytes_eq name key) d rest)
    ∙ ap (λ b. option_and_then seen (cond b (Some d) rest)) (sym (is_eq-slice_cmp name key))
    ∙ ap (option_and_then seen) (sym (at_equal (slice_cmp nat_cmp name key) rest (Some d)))

-- what is seen of a value, or what was found where there is none
abbrev found_or : Option Data → Option Seen → Option Seen
found_or None found = found
found_or (Some d) found = seen d

found_or-cond : (t : Bool) (rest : Option Data) (d : Data) (found : Option Seen) → (t ≡ true → rest ≡ None) →
    found_or rest (cond t (seen d) found) ≡ found_or (cond t (Some d) rest) found
found_or-cond true rest d found h = rw (h refl) refl
found_or-cond false rest d found h = refl

found_or-None : (o : Option Data) → found_or o None ≡ option_and_then seen o
found_or-None None = refl
found_or-None (Some d) = refl

last_seen-get : (name : List ℕ) (ms : Members) → HaveDistinctNames ms → (found : Option Seen) →
    last_seen name ms found ≡ found_or (get_member name ms) found
last_seen-get name no_members u found = refl
last_seen-get name (member key d ms) u found =
    let rest = get_member name ms in let t = bytes_eq name key in
    last_seen-get name ms u.1 (cond t (seen d) found)
    ∙ found_or-cond t rest d found (λ same. ap (λ n. get_member n ms) ((bytes_eq-Decides name key).0 same) ∙ u.0)
    ∙ ap (λ o. found_or o found) (ap (λ b. cond b (Some d) rest) (sym (is_eq-slice_cmp name key))
    ∙ sym (at_equal (slice_cmp nat_cmp name key) rest (Some d)))

-- an object's copy, in an arena that holds it
module _ (ms : Members) (before a : Contents) (g : IsPartOf (with_copy (object ms) no_name before) a) where
  abbrev end : ℕ
  end = length (with_members ms before).nodes

  up : IsPartOf (with_members ms before) a
  up = IsPartOf-trans (with_members ms before) (with_copy (object ms) no_name before) a
      (IsPartOf-with_node (with_members ms before) _) g

  own_start : content_start (node_at a end) ≡ length before.nodes
  own_start =
      let e : end ≡ length (with_copy (object ms) no_name before).nodes - 1 =
      omega (arith, length-with_copy (object ms) no_name before) in
      ap (λ i. content_start (node_at a i)) e ∙ ap content_start (node_at-with_copy (object ms) no_name before a g)
      ∙ content_start-own_node (object ms) no_name before

  -- as many steps as there are members, and some more
  steps : end ≡ members_count ms + (end - members_count ms)
  steps = omega (arith, count-le ms before)

  pub held-object : MembersHaveUtf8Texts ms → IsHeldDocument a end
  held-object u =
      let start = length before.nodes in let k = end - members_count ms in
      let there : end < length a.nodes =
      omega (
        arith,
        length-with_copy (object ms) no_name before,
        ap length g.1.1,
        length-append
            (with_copy (object ms) no_name before).nodes g.1.0,
      ) in
      let held : AreHeld (members_count ms + k) a start end =
      held-members start ms before a up u (omega arith) k (AreHeld-end k a start start (omega arith)) in
      (there, subst (λ s. AreHeld end a s end) (sym own_start) (subst (λ n. AreHeld n a start end) (sym steps) held))

  pub seen_under-object : (name : List ℕ) →
      seen_under (record { contents = a; index = end }) name ≡ option_and_then seen (get_member name ms)
  unfolding seen_under
  seen_under-object name =
      let start = length before.nodes in let k = end - members_count ms in
      ap (λ s. seen_before end a s name end None) own_start
      ∙ ap (λ n. seen_before n a start name end None) steps
      ∙ seen-members start name ms before a up (omega arith) k None
      ∙ seen_before-end k a start start name (first_seen name ms None) (omega arith)
      ∙ first_seen-get name ms

  last_under-object : HaveDistinctNames ms → (name : List ℕ) →
      last_under (record { contents = a; index = end }) name ≡ option_and_then seen (get_member name ms)
  unfolding last_under
  last_under-object u name =
      let start = length before.nodes in let k = end - members_count ms in
      ap (λ s. last_before end a s name end) own_start
      ∙ ap (λ n. last_before n a start name end) steps
      ∙ last-members start name ms before a up (omega arith) k
      ∙ ap (last_seen name ms) (last_before-end k a start start name (omega arith))
      ∙ last_seen-get name ms u None
      ∙ found_or-None (get_member name ms)

  pub distinct-object : HaveDistinctNames ms → HasDistinctMembers (record { contents = a; index = end })
  distinct-object u = λ name. last_under-object u name ∙ sym (seen_under-object name)
