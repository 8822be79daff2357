-- A run over builds: what is told so far, one build more, and the end.
use Rattle.std.proofs.Common.{◌≡◌, ℕ, suc, ◌+◌, ◌<◌, ◌≤◌, Bool, true, false, cond, List, [], ◌∷◌, ◌++◌, length, length-append, length-take-le, map, flat_map, take, get_or, take_all, Option, Some, None, IfSome, IsPermutation, Vec, Global, refl, sym, ap, ap₂, subst, ◌∙◌, arith, append_assoc, append-nil}
use Rattle.std.proofs.lemmas.Grind.{flat_map-append}
use Rattle.std.proofs.lemmas.List.{map-append, take_more, get_or-map, length-map}
use Rattle.std.proofs.lemmas.List.Sorted.{IsPermutation-map}
use Rattle.lists.specs.declared.Fate.{Fate}
use Rattle.lists.specs.Lists.{list_line}
use Rattle.spelling.specs.Spelling.{spelled_out}
use Rattle.lists.specs.Together.{texts_of, together}
use Rattle.lists.proofs.Lists.{together-permutation}
use Rattle.builds.specs.declared.Build.{Build}
use Rattle.builds.specs.Folders.{Held, with_reports, fate_told, reports_told, BuildTold, ReportsBuild}
use Rattle.builds.specs.Runs.{in_part, part_from, part_of, lines_told, RunTold, list_of, WritesReports}

-- ---- a way more

part-more : (number of place : ℕ) (ws : List (List ℕ)) (w : List ℕ)
    → part_from number of place (ws ++ w ∷ []) ≡ part_from number of place ws ++ cond (in_part number of (place + length ws)) (w ∷ []) []
unfolding part_from
part-more number of place [] w =
    let here : place + 0 ≡ place = omega arith in
    rw here (go (in_part number of place))
  where
    go : (b : Bool) → cond b (w ∷ []) [] ≡ cond b (w ∷ []) []
    go b = refl
part-more number of place (v ∷ ws) w =
    let here : place + suc (length ws) ≡ (place + 1) + length ws = omega arith in
    rw here (go (in_part number of place) (part-more number of (place + 1) ws w))
  where
    go : (b : Bool) → part_from number of (place + 1) (ws ++ w ∷ []) ≡ part_from number of (place + 1) ws ++ cond (in_part number of ((place + 1) + length ws)) (w ∷ []) []
        → cond b (v ∷ part_from number of (place + 1) (ws ++ w ∷ [])) (part_from number of (place + 1) (ws ++ w ∷ []))
        ≡ cond b (v ∷ part_from number of (place + 1) ws) (part_from number of (place + 1) ws) ++ cond (in_part number of ((place + 1) + length ws)) (w ∷ []) []
    go true e = ap (λ (l : List (List ℕ)). v ∷ l) e
    go false e = e

lines-more : (ws : List (List ℕ)) (fs : List Fate) (w : List ℕ) (f : Fate) → length fs ≡ length ws → lines_told (ws ++ w ∷ []) (fs ++ f ∷ []) ≡ lines_told ws fs ++ list_line (spelled_out w) f ∷ []
lines-more [] [] w f e = refl
lines-more [] (g ∷ fs) w f e = absurd (omega (arith, e))
lines-more (v ∷ ws) [] w f e = absurd (omega (arith, e))
lines-more (v ∷ ws) (g ∷ fs) w f e = ap (λ (l : List (List ℕ)). list_line (spelled_out v) g ∷ l) (lines-more ws fs w f (omega (arith, e)))

-- ---- the run so far

pub record SoFar (held : Option Held) (done : List (List ℕ)) (lines : List (List ℕ)) (fates : List Fate) (now : Option Held) : Type 0 where
  pub lines-are : lines ≡ lines_told done fates
  pub long : length fates ≡ length done
  pub told : IfSome held (λ h. RunTold h done fates now)

pub none-yet : (held now : Option Held) → now ≡ held → SoFar held [] [] [] now
none-yet held now e = record { lines-are = refl; long = refl; told = go held e }
  where
    go : (o : Option Held) → now ≡ o → IfSome o (λ h. RunTold h [] [] now)
    go None p = tt
    go (Some h) p = record { told = refl; put = p ∙ ap (λ (rs : List (List ℕ × List ℕ)). Some (record h { reports = rs })) (sym (append-nil h.reports)) }

run-more : (held now later : Option Held) (done : List (List ℕ)) (fates : List Fate) (w : List ℕ) (f : Fate) → IfSome held (λ h. RunTold h done fates now) → ReportsBuild now w f later
    → IfSome held (λ h. RunTold h (done ++ w ∷ []) (fates ++ f ∷ []) later)
run-more None now later done fates w f t b = tt
run-more (Some h) now later done fates w f t b =
    let before = with_reports h (flat_map (reports_told h) done) in
    let one : BuildTold before w f later = subst (λ (o : Option Held). ReportsBuild o w f later) t.put b in
    let reports : flat_map (reports_told h) (done ++ w ∷ []) ≡ flat_map (reports_told h) done ++ reports_told h w =
    flat_map-append (reports_told h) done (w ∷ []) ∙ ap (λ (rs : List (List ℕ × List ℕ)). flat_map (reports_told h) done ++ rs) (append-nil (reports_told h w)) in record {
      told = ap₂ (λ (a : List Fate) (g : Fate). a ++ g ∷ []) t.told one.told ∙ sym (map-append (fate_told h) done (w ∷ []));
      put = one.put ∙ ap (λ (rs : List (List ℕ × List ℕ)). Some (record h { reports = rs }))
          (append_assoc h.reports (flat_map (reports_told h) done) (reports_told h w) ∙ ap (λ (rs : List (List ℕ × List ℕ)). h.reports ++ rs) (sym reports));
    }

one-more : (held now later : Option Held) (done lines : List (List ℕ)) (fates : List Fate) (w : List ℕ) (f : Fate) → SoFar held done lines fates now → ReportsBuild now w f later
    → SoFar held (done ++ w ∷ []) (lines ++ list_line (spelled_out w) f ∷ []) (fates ++ f ∷ []) later
one-more held now later done lines fates w f s b = record {
  lines-are = ap (λ (l : List (List ℕ)). l ++ list_line (spelled_out w) f ∷ []) s.lines-are ∙ sym (lines-more done fates w f s.long);
  long = omega (arith, s.long, length-append fates (f ∷ []), length-append done (w ∷ []));
  told = run-more held now later done fates w f s.told b;
}

-- ---- as the loop has it

-- the ways to builds
abbrev pub ways_of : List Build → List (List ℕ)
ways_of builds = map (λ b. b.way.items) builds

abbrev pub Done : Option Held → ℕ → ℕ → List Build → ℕ → List (Vec ℕ Global) → List Fate → Option Held → Type 0
Done held number of builds i lines fates now = SoFar held (part_of number of (take i (ways_of builds))) (texts_of lines) fates now

ways-more : (builds : List Build) (i : ℕ) (b : Build) → i < length builds → take (i + 1) (ways_of builds) ≡ take i (ways_of builds) ++ (get_or builds i b).way.items ∷ []
ways-more builds i b h =
    let long : length (ways_of builds) ≡ length builds = length-map builds (λ (c : Build). c.way.items) in
    take_more (ways_of builds) i b.way.items (omega arith) ∙ ap (λ (w : List ℕ). take i (ways_of builds) ++ w ∷ []) (get_or-map (λ (c : Build). c.way.items) builds i b b.way.items h)

part-next : (number of : ℕ) (builds : List Build) (i : ℕ) (b : Build) → i < length builds
    → part_of number of (take (i + 1) (ways_of builds)) ≡ part_of number of (take i (ways_of builds)) ++ cond (in_part number of (i + 1)) ((get_or builds i b).way.items ∷ []) []
part-next number of builds i b h =
    let long : length (ways_of builds) ≡ length builds = length-map builds (λ (c : Build). c.way.items) in
    let place : 1 + length (take i (ways_of builds)) ≡ i + 1 = omega (arith, length-take-le i (ways_of builds) (omega arith)) in
    ap (part_of number of) (ways-more builds i b h)
    ∙ (rw place at (part-more number of 1 (take i (ways_of builds)) (get_or builds i b).way.items))

pub turn-skipped : (held now : Option Held) (number of : ℕ) (builds : List Build) (i : ℕ) (lines : List (Vec ℕ Global)) (fates : List Fate) → i < length builds
    → in_part number of (i + 1) ≡ false → Done held number of builds i lines fates now → Done held number of builds (i + 1) lines fates now
turn-skipped held now number of [] i lines fates h e d = absurd (omega arith)
turn-skipped held now number of (b ∷ builds) i lines fates h e d =
    let next : part_of number of (take (i + 1) (ways_of (b ∷ builds))) ≡ part_of number of (take i (ways_of (b ∷ builds))) =
    (rw e at (part-next number of (b ∷ builds) i b h)) ∙ append-nil _ in
    rw next d

pub turn-taken : (held now later : Option Held) (number of : ℕ) (builds : List Build) (i : ℕ) (b : Build) (lines after : List (Vec ℕ Global)) (line : Vec ℕ Global) (fates : List Fate) (f : Fate) → i < length builds
    → in_part number of (i + 1) ≡ true → line.items ≡ list_line (spelled_out (get_or builds i b).way.items) f → after ≡ lines ++ line ∷ [] → ReportsBuild now (get_or builds i b).way.items f later
    → Done held number of builds i lines fates now → Done held number of builds (i + 1) after (fates ++ f ∷ []) later
turn-taken held now later number of builds i b lines after line fates f h e l a r d =
    let w = (get_or builds i b).way.items in
    let next : part_of number of (take (i + 1) (ways_of builds)) ≡ part_of number of (take i (ways_of builds)) ++ w ∷ [] = rw e at (part-next number of builds i b h) in
    let texts : texts_of after ≡ texts_of lines ++ list_line (spelled_out w) f ∷ [] =
    ap texts_of a ∙ map-append (λ v. v.items) lines (line ∷ []) ∙ ap (λ (t : List ℕ). texts_of lines ++ t ∷ []) l in
    rw (next, texts) (one-more held now later _ (texts_of lines) fates w f d r)

pub all-done : (held now : Option Held) (number of : ℕ) (builds : List Build) (i : ℕ) (lines : List (Vec ℕ Global)) (fates : List Fate) → length builds ≤ i
    → Done held number of builds i lines fates now → SoFar held (part_of number of (ways_of builds)) (texts_of lines) fates now
all-done held now number of builds i lines fates h d =
    let long : length (ways_of builds) ≡ length builds = length-map builds (λ (c : Build). c.way.items) in
    rw (take_all i (ways_of builds) (omega arith)) at d

-- ---- the list of what is told

lines-of : (fate : List ℕ → Fate) (ws : List (List ℕ)) → lines_told ws (map fate ws) ≡ map (λ w. list_line (spelled_out w) (fate w)) ws
lines-of fate [] = refl
lines-of fate (w ∷ ws) = ap (λ (ls : List (List ℕ)). list_line (spelled_out w) (fate w) ∷ ls) (lines-of fate ws)

listed : (held now : Option Held) (ways lines : List (List ℕ)) (fates : List Fate) (list : List ℕ) → list ≡ together lines → SoFar held ways lines fates now
    → IfSome held (λ h. (shuffled : List (List ℕ)) → IsPermutation ways shuffled → list ≡ list_of (fate_told h) shuffled)
listed None now ways lines fates list e s = tt
listed (Some h) now ways lines fates list e s = λ shuffled p.
    e ∙ ap together (s.lines-are ∙ ap (lines_told ways) s.told.told ∙ lines-of (fate_told h) ways)
    ∙ together-permutation _ _ (IsPermutation-map (λ (w : List ℕ). list_line (spelled_out w) (fate_told h w)) ways shuffled p)

pub at-end : (held now : Option Held) (number of : ℕ) (builds : List Build) (i : ℕ) (lines : List (Vec ℕ Global)) (fates : List Fate) (lent : List (Vec ℕ Global)) (list : List ℕ) → length builds ≤ i
    → Done held number of builds i lines fates now → lent ≡ lines → list ≡ together (texts_of lent) → WritesReports held (part_of number of (ways_of builds)) list fates now
at-end held now number of builds i lines fates lent list h d e l =
    let s = all-done held now number of builds i lines fates h d in
    let is : list ≡ together (texts_of lines) = l ∙ ap (λ (v : List (Vec ℕ Global)). together (texts_of v)) e in
    record { list-is = is ∙ ap together s.lines-are; each = s.long; told = s.told; any_order = listed held now _ (texts_of lines) fates list is s }

pub at-start : (held : Option Held) (number of : ℕ) (lines : List (Vec ℕ Global)) (fates : List Fate) → lines ≡ [] → fates ≡ [] → SoFar held (part_of number of []) (texts_of lines) fates held
unfolding part_from
at-start held number of lines fates l f = rw (l, f) (none-yet held held refl)

-- the line has the build's name, which is the way spelled out
pub turn : (held now later : Option Held) (number of : ℕ) (builds : List Build) (i : ℕ) (b : Build) (name : List ℕ) (lines after : List (Vec ℕ Global)) (line : Vec ℕ Global) (fates more : List Fate) (f : Fate)
    → i < length builds → in_part number of (i + 1) ≡ true → b ≡ get_or builds i b → name ≡ b.name.items → line.items ≡ list_line name f → after ≡ lines ++ line ∷ [] → more ≡ fates ++ f ∷ []
    → ReportsBuild now b.way.items f later → Done held number of builds i lines fates now → Done held number of builds (i + 1) after more later
turn held now later number of builds i b name lines after line fates more f h e is n l a m r d =
    let line-is : line.items ≡ list_line (spelled_out b.way.items) f = l ∙ ap (λ (t : List ℕ). list_line t f) (n ∙ b.spelled) in
    rw m (turn-taken held now later number of builds i b lines after line fates f h e (subst (λ (c : Build). line.items ≡ list_line (spelled_out c.way.items) f) is line-is) a
    (subst (λ (c : Build). ReportsBuild now c.way.items f later) is r) d)
