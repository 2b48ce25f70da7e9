-- What has come of a line, run by run.
use Rattle.std.proofs.Common.{◌≡◌, ℕ, ◌+◌, ◌-◌, ◌<◌, ◌≤◌, min, List, [], ◌∷◌, ◌++◌, length, take, Bool, true, false}
use Rattle.std.proofs.Common.{nat_lt, nat_le, eqb, Err, refl, sym, ap, ◌∙◌, arith, length-append, append-nil}
use Rattle.std.proofs.lemmas.Bool.{eqb-true, eqb-false, ltb-false, le-ltb, lt-ltb, ltb-true, le-leb, lt-leb}
use Rattle.std.proofs.Math.Seq.{take-nil, take-append-add}
use Rattle.std.proofs.lemmas.List.{take_all, take_min, take-append-le, length-take}
use Rattle.std.specs.List.{list_all}
use Rattle.desk_types.specs.declared.refusal.Refusal.TheVariants.{TooLong}
use Rattle.desk_types.specs.declared.limits.TheConstants.{LINE_BYTES}
use Rattle.desk_eido.specs.Reading.{document, fitted_document, ask_on_line}
use Rattle.desk_lines.specs.Lines.{onto_first, lines_of, is_skipped, is_space, IsOneLine, HasCome}

pub IsOneLine-append : (line run : List ℕ) → IsOneLine line → IsOneLine run → IsOneLine (line ++ run)
IsOneLine-append [] run h k = k
IsOneLine-append (b ∷ line) run h k = (h.0, IsOneLine-append line run h.1 k)

-- the first line ends here
pub lines_of-end : (line bytes : List ℕ) → IsOneLine line → lines_of (line ++ 10 ∷ bytes) ≡ line ∷ lines_of bytes
lines_of-end [] bytes h = refl
lines_of-end (b ∷ line) bytes h = rw h.0 (ap (onto_first b) (lines_of-end line bytes h.1))

-- the one line that there is
pub lines_of-last : (b : ℕ) (line : List ℕ) → IsOneLine (b ∷ line) → lines_of (b ∷ line) ≡ (b ∷ line) ∷ []
lines_of-last b [] h = rw h.0 refl
lines_of-last b (c ∷ line) h = rw h.0 (ap (onto_first b) (lines_of-last c line h.1))

-- whether nothing is kept
pub none_preserved : (n : ℕ) (is_none : Bool) → is_none ≡ eqb n 0 → is_none ≡ true → n ≡ 0
none_preserved n is_none e printed = eqb-true n 0 (sym e ∙ printed)

pub some_preserved : (n : ℕ) (is_none : Bool) → is_none ≡ eqb n 0 → is_none ≡ false → 0 < n
some_preserved n is_none e printed = omega (arith, eqb-false n 0 (sym e ∙ printed))

-- a prefix of a list with more after it
take-more : (most : ℕ) (line run : List ℕ) → length line ≤ most →
    take most (line ++ run) ≡ line ++ take (most - length line) run
take-more most line run within =
    let sum : most ≡ length line + (most - length line) = omega arith in
    ap (λ n. take n (line ++ run)) sum ∙ take-append-add line run (most - length line)

pub nothing_came : HasCome [] false []
nothing_came = record {
  preserved_is = sym (take-nil LINE_BYTES);
  long_is = sym (le-ltb LINE_BYTES 0 (omega arith));
  no_end = tt;
}

preserved_length : (preserved line : List ℕ) (is_long : Bool) → HasCome preserved is_long line →
    length preserved ≡ min LINE_BYTES (length line)
preserved_length preserved line is_long h = ap length h.preserved_is ∙ length-take LINE_BYTES line

-- the line is as it was kept
pub is_whole : (preserved : List ℕ) (is_long : Bool) (line : List ℕ) → is_long ≡ false →
    HasCome preserved is_long line →
    preserved ≡ line
is_whole preserved is_long line e h =
    h.preserved_is ∙ take_all LINE_BYTES line (ltb-false LINE_BYTES (length line) (sym h.long_is ∙ e))

-- a prefix of a run is kept, as long as there is room for it
preserved_run : (preserved : List ℕ) (is_long : Bool) (line run : List ℕ) (n : ℕ) → HasCome preserved is_long line →
    n ≡ min (length run) (LINE_BYTES - length preserved) → preserved ++ take n run ≡ take LINE_BYTES (line ++ run)
preserved_run preserved true line run n h e =
    let over : LINE_BYTES < length line = ltb-true LINE_BYTES (length line) (sym h.long_is) in
    let none : n ≡ 0 = omega (arith, e, over, preserved_length preserved line true h) in
    rw none (append-nil preserved ∙ h.preserved_is ∙ sym (take-append-le LINE_BYTES line run (omega (arith, over))))
preserved_run preserved false line run n h e =
    let fits : length line ≤ LINE_BYTES = ltb-false LINE_BYTES (length line) (sym h.long_is) in
    let whole : preserved ≡ line = is_whole preserved false line refl h in
    let room : n ≡ min (LINE_BYTES - length line) (length run) = omega (arith, e, ap length whole) in
    ap (λ l. l ++ take n run) whole ∙ ap (λ k. line ++ take k run) room
    ∙ ap (λ l. line ++ l) (take_min (LINE_BYTES - length line) run) ∙ sym (take-more LINE_BYTES line run fits)

long_whole : (preserved : List ℕ) (is_long : Bool) (line run : List ℕ) → HasCome preserved is_long line →
    length run ≤ LINE_BYTES - length preserved → is_long ≡ nat_lt LINE_BYTES (length (line ++ run))
long_whole preserved true line run h all =
    let over : LINE_BYTES < length line = ltb-true LINE_BYTES (length line) (sym h.long_is) in
    sym (lt-ltb LINE_BYTES (length (line ++ run)) (omega (arith, over, length-append line run)))
long_whole preserved false line run h all =
    let under : length line ≤ LINE_BYTES = ltb-false LINE_BYTES (length line) (sym h.long_is) in
    sym (le-ltb LINE_BYTES (length (line ++ run))
    (omega (arith, under, all, length-append line run, preserved_length preserved line false h)))

-- the whole run is kept
pub came_whole : (preserved : List ℕ) (is_long : Bool) (line run : List ℕ) (n : ℕ) → HasCome preserved is_long line →
    IsOneLine run → n ≡ min (length run) (LINE_BYTES - length preserved) → length run ≤ n →
    HasCome (preserved ++ take n run) is_long (line ++ run)
came_whole preserved is_long line run n h one e all = record {
  preserved_is = preserved_run preserved is_long line run n h e;
  long_is = long_whole preserved is_long line run h (omega (arith, e, all));
  no_end = IsOneLine-append line run h.no_end one;
}

-- a part of it is kept
pub came_part : (preserved : List ℕ) (is_long : Bool) (line run : List ℕ) (n : ℕ) → HasCome preserved is_long line →
    IsOneLine run → n ≡ min (length run) (LINE_BYTES - length preserved) → n < length run →
    HasCome (preserved ++ take n run) true (line ++ run)
came_part preserved is_long line run n h one e part = record {
  preserved_is = preserved_run preserved is_long line run n h e;
  long_is = sym (lt-ltb LINE_BYTES (length (line ++ run))
      (omega (arith, length-append line run, preserved_length preserved line is_long h)));
  no_end = IsOneLine-append line run h.no_end one;
}

pub skips_long : (preserved : List ℕ) (is_long : Bool) (line : List ℕ) → is_long ≡ true →
    HasCome preserved is_long line →
    false ≡ is_skipped line
skips_long preserved is_long line e h =
    let over : nat_le (length line) LINE_BYTES ≡ false =
    lt-leb (length line) LINE_BYTES (ltb-true LINE_BYTES (length line) (sym h.long_is ∙ e)) in
    rw over refl

pub skips_short : (preserved : List ℕ) (is_long : Bool) (line : List ℕ) → is_long ≡ false →
    HasCome preserved is_long line →
    list_all is_space preserved ≡ is_skipped line
skips_short preserved is_long line e h =
    let fits : length line ≤ LINE_BYTES = ltb-false LINE_BYTES (length line) (sym h.long_is ∙ e) in
    rw (le-leb (length line) LINE_BYTES fits, h.preserved_is, take_all LINE_BYTES line fits) refl

pub refuses_long : (room : ℕ) (preserved : List ℕ) (is_long : Bool) (line : List ℕ) → is_long ≡ true →
    HasCome preserved is_long line → ask_on_line room line ≡ Err TooLong
unfolding document fitted_document ask_on_line
refuses_long room preserved is_long line e h = rw (sym h.long_is ∙ e) refl
