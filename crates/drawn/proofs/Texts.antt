-- The characters of a text, one by one.
use Rattle.std.proofs.Common.{◌≡◌, ℕ, ◌+◌, List, [], ◌∷◌, ◌++◌, length, drop, Option, Some, None, ap, sym, subst, ◌∙◌, append_assoc, append-nil}
use Rattle.std.specs.Prelude.{flat_map}
use Rattle.std.specs.Char.{encode_utf8}
use Rattle.std.specs.Str.{chars, IsUtf8, encode_utf8_all}
use Rattle.std.specs.Str.Iter.{chars_rest, chars_steps}
use Rattle.std.specs.declared.str.Chars.{Chars}
use Rattle.std.proofs.lemmas.List.{drop-drop}
use Rattle.std.proofs.lemmas.Str.{chars-nil, chars_past_char, IsUtf8-past_char, encodes-chars}
use Rattle.drawn.specs.Svg.{character_in_xml, in_xml}

none_left : (bs : List ℕ) → length bs ≡ 0 → chars bs ≡ []
none_left [] h = chars-nil
none_left (b ∷ bs) h = absurd (cc)

-- what is written of a text, and the characters that are left, are the whole text
pub record Escaping (text out rest : List ℕ) : Type 0 where
  pub utf8 : IsUtf8 rest
  pub whole : out ++ flat_map character_in_xml (chars rest) ≡ flat_map character_in_xml (chars text)

pub escaping-more : (text out after rest left : List ℕ) (c : ℕ) → rest ≡ encode_utf8 c ++ left → after ≡ out ++ character_in_xml c → Escaping text out rest → Escaping text after left
escaping-more text out after rest left c e a w = record {
  utf8 = IsUtf8-past_char rest left c w.utf8 e;
  whole = rw (a, append_assoc out (character_in_xml c) (flat_map character_in_xml (chars left))) (rw (chars_past_char rest left c w.utf8 e) at w.whole);
}

pub escaping-done : (text out rest : List ℕ) → length rest ≡ 0 → Escaping text out rest → out ≡ in_xml text
unfolding in_xml
escaping-done text out rest h w =
    let whole : out ++ [] ≡ flat_map character_in_xml (chars text) = rw (none_left rest h) at w.whole in
    sym (append-nil out) ∙ whole

-- what is left of a text without its first characters
pub record Left (text : List ℕ) (k : ℕ) (rest : List ℕ) : Type 0 where
  pub utf8 : IsUtf8 rest
  pub less : chars rest ≡ drop k (chars text)

drop-next : (k : ℕ) (bs cs : List ℕ) → drop k bs ≡ cs → drop (k + 1) bs ≡ drop 1 cs
drop-next k bs cs e = sym (drop-drop 1 k bs) ∙ ap (drop 1) e

pub left-more : (text : List ℕ) (k : ℕ) (s t : Chars) (r : Option ℕ) → chars_steps s r t → Left text k (chars_rest s) → Left text (k + 1) (chars_rest t)
left-more text k s t None st w = record {
  utf8 = subst (λ (v : Chars). IsUtf8 (chars_rest v)) (sym st.0.1) w.utf8;
  less = ap (λ (v : Chars). chars (chars_rest v)) st.0.1 ∙ none_left (chars_rest s) st.0.0
      ∙ sym (drop-next k (chars text) [] (sym w.less ∙ none_left (chars_rest s) st.0.0));
}
left-more text k s t (Some c) st w = record {
  utf8 = IsUtf8-past_char (chars_rest s) (chars_rest t) c w.utf8 st.0;
  less = sym (drop-next k (chars text) (c ∷ chars (chars_rest t)) (sym w.less ∙ chars_past_char (chars_rest s) (chars_rest t) c w.utf8 st.0));
}

pub left-done : (text rest : List ℕ) (k : ℕ) → Left text k rest → rest ≡ encode_utf8_all (drop k (chars text))
left-done text rest k w = sym (encodes-chars rest w.utf8) ∙ ap encode_utf8_all w.less
