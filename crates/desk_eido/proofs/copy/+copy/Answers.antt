use Rattle.std.proofs.Common.{◌≡◌, ◌<◌, ◌+◌, if◌then◌else◌, ℕ, Bool, true, false, List, ◌∷◌, length, get_or, drop, []}
use Rattle.std.proofs.Common.{String, Global, string_bytes, sym, ap, subst, ◌∙◌, refl, arith, rules}
use Rattle.std.proofs.lemmas.List.{drop_all, drop_more}
use mir.Val.{bool_byte}
use Rattle.serde_json.specs.Data.{null, boolean, number, string, array, object, item, member}
use Rattle.serde_json.specs.View.{view, items_view, members_view, number_view}
use Rattle.serde_json.specs.declared.number.Number.{Number}
use Rattle.serde_json.specs.declared.value.Value.{Value, the_lemmas}
use Rattle.serde_json.proofs.Views.{Entry, view-Array, view-Object}
use Rattle.desk_arena.specs.Contents.{room, with_text}
use Rattle.desk_eido.specs.Copied.{no_name, next_text, with_copy, with_items, with_members, copied_node, number_node}
use Rattle.desk_eido.specs.Copied.{text_node}
use Rattle.desk_eido.specs.Room.{room_of, items_room, members_room}
use Rattle.desk_eido.specs.Utf8.{ItemsHaveUtf8Texts, MembersHaveUtf8Texts}
use Rattle.desk_eido.specs.declared.kind.TheConstants.{NULL, TRUTH_VALUE, LIST, OBJECT}
use Rattle.desk_eido.proofs.Begun.{IsBetween, view-Text, begun-items, begun-name, begun-members, part-copy}
use Rattle.desk_eido.proofs.Begun.{part-member, named_copy}
use Rattle.desk_eido.proofs.Copying.{ended_by, refused_by, list_refused, object_refused, not_full, part_full}
use Rattle.desk_eido.proofs.Growing.{IsPartOf-refl, IsPartOf-with_node, IsPartOf-with_text, IsPartOf-with_items}
use Rattle.desk_eido.proofs.Growing.{IsPartOf-with_members}
use Rattle.desk_eido.proofs.Names.{distinct-sorted}
use Rattle.desk_eido.proofs.copy.+copy.Goals as goal

view-Null : view Value.Null ≡ null
view-Null = search (rules, the_lemmas)

view-Bool : (b : Bool) → view (Value.Bool b) ≡ boolean b
view-Bool b = search (rules, the_lemmas)

view-Number : (n : Number) → view (Value.Number n) ≡ number (number_view n)
view-Number n = search (rules, the_lemmas)

-- the name of a member does not fit
name_full : (old between left all name value rest : ℕ) → old + left ≡ between + all → left ≡ name + value + rest →
    between < name → old < all
name_full old between left all name value rest e f g = omega arith

-- the value of a member does not fit after its name
value_full : (old between named left all name value rest : ℕ) → old + left ≡ between + all →
    left ≡ name + value + rest → named + name ≡ between → named < value → old < all
value_full old between named left all name value rest e f g h = omega arith

no_more : (n : ℕ) → n + 0 ≡ n
no_more n = omega arith

-- the number that a truth value is
truth : (b : Bool) → bool_byte b ≡ (if b then 1 else 0)
truth true = refl
truth false = refl

pub copy-returns-in-Null : goal.copy-returns-in-Null
copy-returns-in-Null t c =
    let a = c.args.arena.now in
    ended_by c.push.result _ null c.args.name a a a c.push.new.arena _ (copied_node NULL 0 0 c.args.name) _ 0
    c.push.ensures c.node.ensures c.mark-start.ensures.nodes (ap view c.in-Null.is ∙ view-Null) refl refl
    (IsPartOf-refl a) (no_more (room a)) refl tt tt refl

pub copy-returns-in-Bool : goal.copy-returns-in-Bool
copy-returns-in-Bool t c =
    let a = c.args.arena.now in let b = c.in-Bool.is_true in let name = c.args.name in
    let start = c.mark-start.result.nodes in
    ended_by c.push-in-Bool.result _ (boolean b) name a a a c.push-in-Bool.new.arena _
    (copied_node TRUTH_VALUE (if b then 1 else 0) 0 name) _ 0 c.push-in-Bool.ensures
    (c.node-in-Bool.ensures ∙ ap (λ k. copied_node TRUTH_VALUE k 0 name start) (c.from.ensures ∙ truth b))
    c.mark-start.ensures.nodes (ap view c.in-Bool.is ∙ view-Bool b) refl refl (IsPartOf-refl a) (no_more (room a)) refl
    tt tt refl

pub copy-returns-in-Number : goal.copy-returns-in-Number
copy-returns-in-Number t c =
    let a = c.args.arena.now in let n = c.in-Number.number in
    ended_by c.push-in-Number.result _ (number (number_view n)) c.args.name a a a c.push-in-Number.new.arena _
    (number_node (number_view n) c.args.name) _ 0 c.push-in-Number.ensures c.number_node.ensures
    c.mark-start.ensures.nodes (ap view c.in-Number.is ∙ view-Number n) refl refl (IsPartOf-refl a) (no_more (room a))
    refl tt tt refl

pub copy-returns-in_ok-text-in-String : goal.copy-returns-in_ok-text-in-String
copy-returns-in_ok-text-in-String t c =
    let a = c.args.arena.now in let bytes = c.as_bytes.result.now in let name = c.args.name in
    let start = c.mark-start.result.nodes in let done = c.in_ok-text-in-String.ensures in
    ended_by c.push-in-String.result _ (string bytes) name a (with_text a bytes) c.push_text.new.arena
    c.push-in-String.new.arena _ (text_node (next_text a bytes) name) _ (length bytes) c.push-in-String.ensures
    (c.node-in-String.ensures ∙ ap (λ t. text_node t name start) done.text) c.mark-start.ensures.nodes
    (ap view c.in-String.is ∙ (view-Text _ ∙ ap string (sym (c.as_bytes.ensures.value ∙ c.as_str.ensures.value))))
    refl done.pushed (IsPartOf-with_text a bytes) done.taken refl c.as_bytes.ensures.utf8 tt done.capacity

pub copy-returns-in_ok-copy_items-in-Array : goal.copy-returns-in_ok-copy_items-in-Array
copy-returns-in_ok-copy_items-in-Array t c =
    let a = c.args.arena.now in let ds = items_view c.in-Array.items.items in
    let done = c.in_ok-copy_items-in-Array.ensures in
    ended_by c.push-in-Array.result _ (array ds) c.args.name a (with_items ds a) c.copy_items.new.arena
    c.push-in-Array.new.arena _ (copied_node LIST 0 0 c.args.name) _ (items_room ds) c.push-in-Array.ensures
    c.node-in-Array.ensures c.mark-start.ensures.nodes (ap view c.in-Array.is ∙ view-Array _) refl done.copied
    (IsPartOf-with_items ds a) done.taken refl done.utf8 tt done.capacity

pub copy-returns-in_ok-copy_members-in-Object : goal.copy-returns-in_ok-copy_members-in-Object
copy-returns-in_ok-copy_members-in-Object t c =
    let a = c.args.arena.now in let ms = members_view c.in-Object.members.entries in
    let done = c.in_ok-copy_members-in-Object.ensures in
    ended_by c.push-in-Object.result _ (object ms) c.args.name a (with_members ms a) c.copy_members.new.arena
    c.push-in-Object.new.arena _ (copied_node OBJECT 0 0 c.args.name) _ (members_room ms) c.push-in-Object.ensures
    c.node-in-Object.ensures c.mark-start.ensures.nodes (ap view c.in-Object.is ∙ view-Object _) refl done.copied
    (IsPartOf-with_members ms a) done.taken refl done.utf8 done.names done.capacity

pub copy-returns-in_err-text-in-String : goal.copy-returns-in_err-text-in-String
copy-returns-in_err-text-in-String t c =
    let a = c.args.arena.now in let bytes = c.as_bytes.result.now in let all = with_text a bytes in
    let done = c.in_err-text-in-String.ensures in
    refused_by c.from_residual.result _ (string bytes) c.args.name a all c.push_text.new.arena (length bytes)
    c.from_residual.ensures.0
    (ap view c.in-String.is ∙ (view-Text _ ∙ ap string (sym (c.as_bytes.ensures.value ∙ c.as_str.ensures.value))))
    (subst (λ z. IsBetween a z all) (sym done.err) (IsPartOf-refl a, IsPartOf-with_text a bytes))
    (IsPartOf-with_node all _) (done.full.0 refl) refl done.capacity done.within

pub copy-returns-in_err-copy_items-in-Array : goal.copy-returns-in_err-copy_items-in-Array
copy-returns-in_err-copy_items-in-Array t c =
    let a = c.args.arena.now in let ds = items_view c.in-Array.items.items in
    let done = c.in_err-copy_items-in-Array.ensures in
    refused_by c.from_residual-in_err-copy_items-in-Array.result _ (array ds) c.args.name a (with_items ds a)
    c.copy_items.new.arena (items_room ds) c.from_residual-in_err-copy_items-in-Array.ensures.0
    (ap view c.in-Array.is ∙ view-Array _) done.begun (IsPartOf-with_node (with_items ds a) _) (done.full.0 refl) refl
    done.capacity done.within

pub copy-returns-in_err-copy_members-in-Object : goal.copy-returns-in_err-copy_members-in-Object
copy-returns-in_err-copy_members-in-Object t c =
    let a = c.args.arena.now in let ms = members_view c.in-Object.members.entries in
    let done = c.in_err-copy_members-in-Object.ensures in
    refused_by c.from_residual-in_err-copy_members-in-Object.result _ (object ms) c.args.name a (with_members ms a)
    c.copy_members.new.arena (members_room ms) c.from_residual-in_err-copy_members-in-Object.ensures.0
    (ap view c.in-Object.is ∙ view-Object _) done.begun (IsPartOf-with_node (with_members ms a) _) (done.full.0 refl)
    refl done.capacity done.within

-- the items that are left are the one at the index, and the rest
left_items : (items : List Value) (i : ℕ) (x : Value) → i < length items → x ≡ get_or items i x →
    items_view (drop i items) ≡ item (view x) (items_view (drop (i + 1) items))
left_items items i x within is =
    ap items_view (drop_more items i x within) ∙ ap (λ y. item (view y) (items_view (drop (i + 1) items))) (sym is)

-- the members that are left are the next one, and the rest
left_members : (left rest : List Entry) (name : String Global) (value : Value) (key : List ℕ) →
    left ≡ (name, value) ∷ rest → key ≡ string_bytes name →
    members_view left ≡ member key (view value) (members_view rest)
left_members left rest name value key is key_is =
    ap members_view is ∙ ap (λ k. member k (view value) (members_view rest)) (sym key_is)

pub copy_items-loop-item-preserved : goal.copy_items-loop-item-preserved
copy_items-loop-item-preserved t c =
    let items = c.deref-item-items.result.now in let i = c.loop-item.item-index in let x = c.item-item.result in
    let left = left_items items i x c.loop-item-test.true c.item-item.is in
    let inv = c.loop-item.invariant in let done = c.in_ok-copy.ensures in
    let rest = items_view (drop (i + 1) items) in
    record {
      copied = ap (with_items rest) done.copied ∙ (ap (λ ds. with_items ds c.loop-item.arena) (sym left) ∙ inv.copied);
      room = omega (arith, inv.room, done.taken, ap items_room left);
      utf8 = λ h. inv.utf8 (subst ItemsHaveUtf8Texts (sym left) (done.utf8, h));
      preserved = part-copy (view x) no_name c.args.arena.now c.loop-item.arena c.copy.new.arena inv.preserved
          done.copied;
      capacity = c.copy.ensures.capacity ∙ inv.capacity;
    }

pub copy_members-loop-name-preserved : goal.copy_members-loop-name-preserved
copy_members-loop-name-preserved t c =
    let key = c.as_bytes.result.now in let l = c.loop-name.arena in let d = view c.in-Some.member.now in
    let rest = members_view c.next.new.self in
    let left = left_members c.loop-name.name-iterator c.next.new.self c.in-Some.name.now c.in-Some.member.now
    key c.in-Some.ensures.steps c.as_bytes.ensures.value in
    let inv = c.loop-name.invariant in let named = c.in_ok-name.ensures in let done = c.in_ok-copy.ensures in
    let there : c.copy.new.arena ≡ with_copy d (next_text l key) (with_text l key) =
    done.copied ∙ named_copy d _ _ _ _ named.text named.pushed in
    record {
      copied = ap (with_members rest) there ∙ (ap (λ ms. with_members ms l) (sym left) ∙ inv.copied);
      room = omega (arith, inv.room, done.taken, named.taken, ap members_room left);
      utf8 = λ h. inv.utf8 (subst MembersHaveUtf8Texts (sym left) (done.utf8, h));
      preserved = part-member key d c.args.arena.now l c.copy.new.arena inv.preserved there;
      capacity = c.copy.ensures.capacity ∙ (c.push_text.ensures.capacity ∙ inv.capacity);
    }

pub copy_items-loop-item-init : goal.copy_items-loop-item-init
copy_items-loop-item-init t c = record {
  copied = refl;
  room = refl;
  utf8 = λ h. h;
  preserved = IsPartOf-refl c.args.arena.now;
  capacity = refl;
}

pub copy_items-returns-in_err-copy : goal.copy_items-returns-in_err-copy
copy_items-returns-in_err-copy t c =
    let items = c.deref-item-items.result.now in let i = c.loop-item.item-index in let x = c.item-item.result in
    let a = c.args.arena.now in let all = items_view c.args.items.now.items in let l = c.loop-item.arena in
    let left = left_items items i x c.loop-item-test.true c.item-item.is in
    let rest = items_view (drop (i + 1) items) in
    let inv = c.loop-item.invariant in let done = c.in_err-copy.ensures in
    let same = c.deref-item-items.ensures.value in
    list_refused (with_items all a) a c.copy.new.arena (items_room all) _
    (part_full (room a) (room l) (items_room (items_view (drop i items))) (items_room all) (room_of (view x))
    (items_room rest) (inv.room ∙ ap (λ xs. room l + items_room (items_view xs)) same) (ap items_room left)
    (done.full.0 refl)) (done.capacity ∙ inv.capacity) done.within c.from_residual.result c.from_residual.ensures.0
    (begun-items _ (view x) (items_view (drop i items)) rest all a l c.copy.new.arena left
    (inv.copied ∙ ap (λ xs. with_items (items_view xs) a) same) inv.preserved done.begun)

pub copy_items-returns : goal.copy_items-returns
copy_items-returns t c =
    let items = c.deref-item-items.result.now in let i = c.loop-item.item-index in
    let a = c.args.arena.now in let all = items_view c.args.items.now.items in let l = c.loop-item.arena in
    let inv = c.loop-item.invariant in let same = c.deref-item-items.ensures.value in
    let none : drop i items ≡ [] = drop_all i items c.loop-item-test.false in
    let room_left =
    not_full (room l) (room a) (items_room (items_view (drop i items))) (items_room all)
    (ap (λ xs. items_room (items_view xs)) none)
    (inv.room ∙ ap (λ xs. room l + items_room (items_view xs)) same) in
    record {
      copied = ap (λ xs. with_items (items_view xs) l) (sym none) ∙ inv.copied
          ∙ ap (λ xs. with_items (items_view xs) a) same;
      taken = room_left.0;
      utf8 = subst (λ xs. ItemsHaveUtf8Texts (items_view xs)) same
          (inv.utf8 (subst (λ xs. ItemsHaveUtf8Texts (items_view xs)) (sym none) tt));
      full = room_left.1;
      begun = tt;
      capacity = inv.capacity;
      within = tt;
    }

pub copy_members-loop-name-init : goal.copy_members-loop-name-init
copy_members-loop-name-init t c =
    let same : c.into_iter-name-iterator.result ≡ c.args.members.now.entries =
    c.into_iter-name-iterator.ensures.into_iter_gives ∙ c.iter-name-items.ensures.rest in
    let a = c.args.arena.now in
    record {
      copied = ap (λ xs. with_members (members_view xs) a) same;
      room = ap (λ xs. room a + members_room (members_view xs)) same;
      utf8 = subst (λ xs. MembersHaveUtf8Texts (members_view xs)) same;
      preserved = IsPartOf-refl a;
      capacity = refl;
    }

pub copy_members-returns-in_err-name : goal.copy_members-returns-in_err-name
copy_members-returns-in_err-name t c =
    let left = left_members c.loop-name.name-iterator c.next.new.self c.in-Some.name.now c.in-Some.member.now
    c.as_bytes.result.now c.in-Some.ensures.steps c.as_bytes.ensures.value in
    let a = c.args.arena.now in let l = c.loop-name.arena in let all = members_view c.args.members.now.entries in
    let inv = c.loop-name.invariant in let done = c.in_err-name.ensures in
    object_refused (with_members all a) a c.push_text.new.arena (members_room all) _
    (name_full (room a) (room l) (members_room (members_view c.loop-name.name-iterator)) (members_room all)
    (length c.as_bytes.result.now) (room_of (view c.in-Some.member.now)) (members_room (members_view c.next.new.self))
    inv.room (ap members_room left) (done.full.0 refl)) (done.capacity ∙ inv.capacity) done.within _
    c.from_residual.result c.from_residual.ensures.0
    (begun-name _ (members_view c.loop-name.name-iterator) all a l c.push_text.new.arena inv.copied inv.preserved
    done.err)

pub copy_members-returns-in_err-copy : goal.copy_members-returns-in_err-copy
copy_members-returns-in_err-copy t c =
    let left = left_members c.loop-name.name-iterator c.next.new.self c.in-Some.name.now c.in-Some.member.now
    c.as_bytes.result.now c.in-Some.ensures.steps c.as_bytes.ensures.value in
    let a = c.args.arena.now in let l = c.loop-name.arena in let all = members_view c.args.members.now.entries in
    let inv = c.loop-name.invariant in let named = c.in_ok-name.ensures in let done = c.in_err-copy.ensures in
    object_refused (with_members all a) a c.copy.new.arena (members_room all) _
    (value_full (room a) (room l) (room c.push_text.new.arena) (members_room (members_view c.loop-name.name-iterator))
    (members_room all) (length c.as_bytes.result.now) (room_of (view c.in-Some.member.now))
    (members_room (members_view c.next.new.self)) inv.room (ap members_room left) named.taken (done.full.0 refl))
    (done.capacity ∙ (named.capacity ∙ inv.capacity)) done.within _ c.from_residual-in_err-copy.result
    c.from_residual-in_err-copy.ensures.0
    (begun-members _ c.as_bytes.result.now c.in_ok-name.name (view c.in-Some.member.now)
    (members_view c.loop-name.name-iterator) (members_view c.next.new.self) all
    a l c.push_text.new.arena c.copy.new.arena left named.text named.pushed inv.copied inv.preserved done.begun)

pub copy_members-returns : goal.copy_members-returns
copy_members-returns t c =
    let a = c.args.arena.now in let all = members_view c.args.members.now.entries in let l = c.loop-name.arena in
    let inv = c.loop-name.invariant in
    let none : c.loop-name.name-iterator ≡ [] = c.in-None.ensures.steps.0 in
    let room_left = not_full (room l) (room a) (members_room (members_view c.loop-name.name-iterator))
    (members_room all) (ap (λ xs. members_room (members_view xs)) none) inv.room in
    record {
      copied = ap (λ xs. with_members (members_view xs) l) (sym none) ∙ inv.copied;
      taken = room_left.0;
      utf8 = inv.utf8 (subst (λ xs. MembersHaveUtf8Texts (members_view xs)) (sym none) tt);
      names = distinct-sorted c.args.members.now.entries c.iter-name-items.ensures.ordered;
      full = room_left.1;
      begun = tt;
      capacity = inv.capacity;
      within = tt;
    }
