-- The version of an event: where its parts stand, and how two compare. Assumes nothing.
use Rattle.std.specs.Prelude.{Option, Some, None}
use Prim.Native.Nat.{ℕ, suc, ◌+◌, ◌-◌, ◌^◌, ◌≤◌, ◌<◌}
use native.Mathlib.Omega.{arith}
use mathlib.Core.Path.{◌≡◌, refl, sym, ap, ap₂, ◌∙◌}
use mathlib.Core.List.{List, ◌∷◌, ◌++◌, append_assoc}
use mathlib.Core.Bool.{Bool, true, false, not, ◌&&◌, ◌||◌}
use lib.ListN.{length, take, drop, get_or, length-append, length-drop, take-append-drop}
use lib.Seq.{take_at, drop_at, drop-drop, get_or-drop}
use lib.Dec.{leb, ltb}
use Rattle.format.specs.Format.{option, via, enum, ◌∣◌, nothing, ◌⊗◌, below, number, big_endian}
use Rattle.format.specs.Format.{text as text-format}
use Rattle.format.proofs.FormatLaws.{text_law, option_law}
use Rattle.format.proofs.SizeLaws.{length_digits}
use Rattle.spans.specs.Bytes.{zeros}
use Rattle.spans.specs.Compare.{order}
use Rattle.std.specs.Prelude.{nat_eq}
use Rattle.std.specs.Cmp.Lexicographic.{pointwise}
use Rattle.spans.proofs.Laws.{drop_zeros, same_bytes}
use Rattle.numbers.specs.Big.{from_be}
use Rattle.numbers.proofs.Laws as numbers
use Rattle.tables.specs.Table.{is_equal}
use Rattle.tables.proofs.Laws as tables
use Rattle.model.specs.Event.{Text, ProviderEvent}
use Rattle.model.specs.Limits.{max_text}
use Rattle.model.specs.Maps.{same_text}
use Rattle.model.specs.Sync.{replaces}
use Rattle.model.specs.Formats.{same, short_text, event_id, tag, u32, ids_f, provider_f, fields_f, event_f}
use Rattle.model.proofs.Tables.{same_true}
use Rattle.model.proofs.ValidParts.{event_revision}
use Rattle.state.specs.Layout.{padded, field}
use Rattle.state.proofs.Orders.{to_digits}
use Rattle.state.proofs.Widths.{cursor_within}
use Rattle.state.proofs.Padded.{field_same}
use Rattle.state.proofs.Ops.{same_self, equal_same}
use Rattle.versions.specs.Versions.{Stands, HasEvent, VersionOf, RevisionAt}

-- ---- places

-- what stands behind x
passed : (p : ℕ) (b x y : List ℕ) → drop p b ≡ x ++ y → drop (p + length x) b ≡ y
passed p b x y e = sym (drop-drop (length x) p b) ∙ ap (drop (length x)) e ∙ drop_at x y (length x) refl

room : (p n : ℕ) (b x : List ℕ) → drop p b ≡ x → n ≤ length x → 0 < n → p + n ≤ length b
room p n b x e l z =
    let h : length b - p ≡ length x = sym (length-drop p b) ∙ ap length e in
    omega arith

byte_at : (p o : ℕ) (b x : List ℕ) → drop p b ≡ x → get_or b (p + o) 0 ≡ get_or x o 0
byte_at p o b x e = sym (get_or-drop p b o 0) ∙ ap (λ (y : List ℕ). get_or y o 0) e

text_place : (p r : ℕ) (b t y : List ℕ) → drop p b ≡ (length t ∷ t) ++ y → r ≡ p + 1 + get_or b p 0 → drop r b ≡ y
text_place p r b t y e q =
    let z : p ≡ p + 0 = omega arith in
    let n : get_or b p 0 ≡ length t = ap (λ (j : ℕ). get_or b j 0) z ∙ byte_at p 0 b ((length t ∷ t) ++ y) e in
    let m : r ≡ p + length (length t ∷ t) = omega arith in
    ap (λ (j : ℕ). drop j b) m ∙ passed p b (length t ∷ t) y e

abbrev OptionPlace : List ℕ → ℕ → ℕ → Type 0
OptionPlace b p r = (get_or b p 0 ≡ 0 → r ≡ p + 1) × ((get_or b p 0 ≡ 0 → ⊥) → r ≡ p + 1 + 1 + get_or b (p + 1) 0)

option_place : (n p r : ℕ) (b y : List ℕ) (o : Option Text) → drop p b ≡ (option (text-format n)).enc o ++ y → OptionPlace b p r → r ≡ p + length ((option (text-format n)).enc o)
unfolding option via enum ◌∣◌ nothing text-format
option_place n p r b y None e f =
    let z : p ≡ p + 0 = omega arith in
    f.0 (ap (λ (j : ℕ). get_or b j 0) z ∙ byte_at p 0 b (0 ∷ y) e)
option_place n p r b y (Some t) e f =
    let z : p ≡ p + 0 = omega arith in
    let h : get_or b p 0 ≡ 1 = ap (λ (j : ℕ). get_or b j 0) z ∙ byte_at p 0 b (1 ∷ (length t ∷ (t ++ y))) e in
    let k : get_or b (p + 1) 0 ≡ length t = byte_at p 1 b (1 ∷ (length t ∷ (t ++ y))) e in
    let g : r ≡ p + 1 + 1 + get_or b (p + 1) 0 = f.1 (λ q. absurd (omega arith)) in
    omega arith

past_option : (n p r : ℕ) (b y : List ℕ) (o : Option Text) → drop p b ≡ (option (text-format n)).enc o ++ y → OptionPlace b p r → drop r b ≡ y
past_option n p r b y o e f = ap (λ (j : ℕ). drop j b) (option_place n p r b y o e f) ∙ passed p b ((option (text-format n)).enc o) y e

-- ---- the parts of an event

abbrev revision_on : ProviderEvent → List ℕ → List ℕ
revision_on e rest = (option short_text).enc e.revision ++ (u32.enc e.mapper_version ++ rest)

-- what stands behind the id, and behind the next
pub record SeriesAt (e : ProviderEvent) (b : List ℕ) (p : ℕ) : Type 0 where
  pub rest : List ℕ
  pub is : drop p b ≡ (option event_id).enc e.ids.series_id ++ revision_on e rest
  pub some : 8 ≤ length rest

pub record UidAt (e : ProviderEvent) (b : List ℕ) (p : ℕ) : Type 0 where
  pub rest : List ℕ
  pub is : drop p b ≡ (option event_id).enc e.ids.ical_uid ++ ((option event_id).enc e.ids.series_id ++ revision_on e rest)
  pub some : 8 ≤ length rest

four : (a b c d x : List ℕ) → (a ++ (b ++ (c ++ d))) ++ x ≡ a ++ (b ++ (c ++ (d ++ x)))
four a b c d x =
    append_assoc a (b ++ (c ++ d)) x ∙ ap (λ (y : List ℕ). a ++ y) (append_assoc b (c ++ d) x ∙ ap (λ (y : List ℕ). b ++ y) (append_assoc c d x))

abbrev tail_of : ProviderEvent → List ℕ
tail_of e = fields_f.enc e.fields ++ tag.enc e.passthrough

laid : (e : ProviderEvent) (rest : List ℕ)
    → event_f.enc e ++ rest ≡ provider_f.enc e.ids.provider ++ ((length e.ids.id ∷ e.ids.id) ++ ((option event_id).enc e.ids.ical_uid ++ ((option event_id).enc e.ids.series_id ++ revision_on e (tail_of e ++ rest))))
unfolding event_f ids_f via ◌⊗◌ text-format
laid e rest =
    let P : List ℕ = provider_f.enc e.ids.provider in
    let I : List ℕ = length e.ids.id ∷ e.ids.id in
    let C : List ℕ = (option event_id).enc e.ids.ical_uid in
    let S : List ℕ = (option event_id).enc e.ids.series_id in
    let R : List ℕ = (option short_text).enc e.revision in
    let M : List ℕ = u32.enc e.mapper_version in
    append_assoc (P ++ (I ++ (C ++ S))) (R ++ (M ++ tail_of e)) rest ∙ four P I C S ((R ++ (M ++ tail_of e)) ++ rest)
    ∙ ap (λ (y : List ℕ). P ++ (I ++ (C ++ (S ++ y)))) (append_assoc R (M ++ tail_of e) rest ∙ ap (λ (y : List ℕ). R ++ y) (append_assoc M (tail_of e) rest))

tail_long : (e : ProviderEvent) (rest : List ℕ) → 8 ≤ length (tail_of e ++ rest)
unfolding number
tail_long e rest =
    let a : length (tail_of e ++ rest) ≡ length (tail_of e) + length rest = length-append (tail_of e) rest in
    let b : length (tail_of e) ≡ length (fields_f.enc e.fields) + length (big_endian 8 e.passthrough) = length-append (fields_f.enc e.fields) (big_endian 8 e.passthrough) in
    let c = length_digits 8 e.passthrough in
    omega arith

provider_long : (e : ProviderEvent) → length (provider_f.enc e.ids.provider) ≡ 1
unfolding provider_f via below
provider_long e = refl

behind_provider : (e : ProviderEvent) (b : List ℕ) (at : ℕ) (S : Stands e b at)
    → drop (at + 1) b ≡ (length e.ids.id ∷ e.ids.id) ++ ((option event_id).enc e.ids.ical_uid ++ ((option event_id).enc e.ids.series_id ++ revision_on e (tail_of e ++ S.rest)))
behind_provider e b at S =
    ap (λ (n : ℕ). drop (at + n) b) (sym (provider_long e)) ∙ passed at b (provider_f.enc e.ids.provider) _ (S.is ∙ laid e S.rest)

pub uid_at : (e : ProviderEvent) (b : List ℕ) (at r : ℕ) → Stands e b at → r ≡ at + 1 + 1 + get_or b (at + 1) 0 → UidAt e b r
uid_at e b at r S q = record { rest = tail_of e ++ S.rest; is = text_place (at + 1) r b e.ids.id _ (behind_provider e b at S) q; some = tail_long e S.rest }

pub series_at : (e : ProviderEvent) (b : List ℕ) (p r : ℕ) → UidAt e b p → OptionPlace b p r → SeriesAt e b r
series_at e b p r U f = record { rest = U.rest; is = past_option _ p r b _ e.ids.ical_uid U.is f; some = U.some }

pub revision_at : (e : ProviderEvent) (b : List ℕ) (p r : ℕ) → SeriesAt e b p → OptionPlace b p r → RevisionAt e b r
revision_at e b p r U f = record { rest = U.rest; is = past_option _ p r b _ e.ids.series_id U.is f; some = U.some }

-- ---- room

revision_long : (e : ProviderEvent) (rest : List ℕ) → 8 ≤ length rest → 12 ≤ length (u32.enc e.mapper_version ++ rest)
unfolding number
revision_long e rest h =
    let a : length (big_endian 4 e.mapper_version ++ rest) ≡ length (big_endian 4 e.mapper_version) + length rest = length-append (big_endian 4 e.mapper_version) rest in
    let b = length_digits 4 e.mapper_version in
    omega arith

longer : (x y : List ℕ) (n : ℕ) → n ≤ length y → n ≤ length (x ++ y)
longer x y n h = let a : length (x ++ y) ≡ length x + length y = length-append x y in omega arith

pub event_room : (b : List ℕ) (at : ℕ) → HasEvent b at → at + 1 + 12 ≤ length b
event_room b at H =
    let e = H.event in
    let S = H.stands in
    room (at + 1) 12 b _ (behind_provider e b at S) (longer (length e.ids.id ∷ e.ids.id) _ 12 (longer ((option event_id).enc e.ids.ical_uid) _ 12 (longer ((option event_id).enc e.ids.series_id) _ 12 (longer ((option short_text).enc e.revision) _ 12 (revision_long e (tail_of e ++ S.rest) (tail_long e S.rest)))))) (omega arith)

pub uid_room : (e : ProviderEvent) (b : List ℕ) (p : ℕ) → UidAt e b p → p + 12 ≤ length b
uid_room e b p U =
    room p 12 b _ U.is (longer ((option event_id).enc e.ids.ical_uid) _ 12 (longer ((option event_id).enc e.ids.series_id) _ 12 (longer ((option short_text).enc e.revision) _ 12 (revision_long e U.rest U.some)))) (omega arith)

pub series_room : (e : ProviderEvent) (b : List ℕ) (p : ℕ) → SeriesAt e b p → p + 12 ≤ length b
series_room e b p U = room p 12 b _ U.is (longer ((option event_id).enc e.ids.series_id) _ 12 (longer ((option short_text).enc e.revision) _ 12 (revision_long e U.rest U.some))) (omega arith)

pub revision_room : (e : ProviderEvent) (b : List ℕ) (p : ℕ) → RevisionAt e b p → p + 12 ≤ length b
revision_room e b p U = room p 12 b _ U.is (longer ((option short_text).enc e.revision) _ 12 (revision_long e U.rest U.some)) (omega arith)

-- ---- an event in the state

-- where an event's field stands, the event does
pub stands_padded : (e : ProviderEvent) (w : List ℕ) (p : ℕ) → event_f.Ok e → take 882 (drop p w) ≡ field 882 event_f e → Stands e w p
unfolding padded
stands_padded e w p ok q = record {
  ok = ok;
  rest = zeros (882 - length (event_f.enc e)) ++ drop 882 (drop p w);
  is = sym (take-append-drop 882 (drop p w)) ∙ ap (λ (x : List ℕ). x ++ drop 882 (drop p w)) q ∙ append_assoc (event_f.enc e) (zeros (882 - length (event_f.enc e))) (drop 882 (drop p w));
}

-- ---- the version

mapper_ok : (e : ProviderEvent) → event_f.Ok e → e.mapper_version < 256 ^ 4
unfolding event_f via ◌⊗◌ number
mapper_ok e ok = ok.1.1.0

-- where the mapper version stands
pub version_room : (e : ProviderEvent) (b : List ℕ) (p r : ℕ) → event_f.Ok e → RevisionAt e b p → OptionPlace b p r → (p ≤ r) × (r + 12 ≤ length b) × (r ≤ p + 34)
version_room e b p r ok U f =
    let l : r ≡ p + length ((option short_text).enc e.revision) = option_place _ p r b _ e.revision U.is f in
    let w = cursor_within.bytes e.revision (event_revision e ok) in
    (omega arith, room r 12 b _ (past_option _ p r b _ e.revision U.is f) (revision_long e U.rest U.some) (omega arith), omega arith)

pub version_is : (e : ProviderEvent) (b revision : List ℕ) (p r mapper : ℕ) → event_f.Ok e → RevisionAt e b p → OptionPlace b p r → revision ≡ padded 34 (take (r - p) (drop p b)) → mapper ≡ from_be 0 (take 4 (drop r b)) → VersionOf e revision mapper
unfolding number
version_is e b revision p r mapper ok U f q m =
    let R : List ℕ = (option short_text).enc e.revision in
    let l : r ≡ p + length R = option_place _ p r b _ e.revision U.is f in
    let n : r - p ≡ length R = omega arith in
    let t : take (r - p) (drop p b) ≡ R = ap₂ take n U.is ∙ take_at R (u32.enc e.mapper_version ++ U.rest) (length R) refl in
    let d : take 4 (drop r b) ≡ big_endian 4 e.mapper_version = ap (take 4) (past_option _ p r b _ e.revision U.is f) ∙ take_at (big_endian 4 e.mapper_version) U.rest 4 (length_digits 4 e.mapper_version) in
    record { revision_is = q ∙ ap (padded 34) t; mapper_is = m ∙ ap (from_be 0) (d ∙ sym (to_digits 4 e.mapper_version)) ∙ numbers.from_to 4 e.mapper_version (mapper_ok e ok) }

pub padded_is : (from to : ℕ) (b y : List ℕ) → from ≤ to → to ≤ length b → to ≤ from + 34 → y ≡ take (to - from) (drop from b) → y ++ drop (to - from) (zeros 34) ≡ padded 34 (take (to - from) (drop from b))
unfolding padded
padded_is from to b y h k l e =
    let n : length (take (to - from) (drop from b)) ≡ to - from = tables.part_length b from (to - from) (omega arith) in
    rw (e, n, drop_zeros (to - from) 34 (omega arith))

-- ---- two versions

abbrev Rev : Option Text → List ℕ
Rev o = field 34 (option short_text) o

revisions_same : (a b : Option Text) → (option short_text).Ok a → (option short_text).Ok b → is_equal (order (Rev a) (Rev b)) ≡ same (option short_text) a b
unfolding same
revisions_same a b p q = equal_same (Rev a) (Rev b) ∙ go (same_text ((option short_text).enc a) ((option short_text).enc b)) refl
  where
    go : (c : Bool) → same_text ((option short_text).enc a) ((option short_text).enc b) ≡ c → same_text (Rev b) (Rev a) ≡ c
    go true e = same_self (Rev b) (Rev a) (ap (padded 34) (sym (same_true _ _ e)))
    go false e = no (same_text (Rev b) (Rev a)) refl
      where
        no : (d : Bool) → same_text (Rev b) (Rev a) ≡ d → d ≡ false
        no false z = refl
        no true z = absurd (tables.false_true (sym e ∙ same_self _ _ (ap (option short_text).enc (field_same 34 (option_law (text_law max_text)) a b p q (sym (same_true _ _ z))))))

bytes_same : (e h : ProviderEvent) (x y : List ℕ) (r : Bool) → event_f.Ok e → event_f.Ok h → x ≡ Rev e.revision → y ≡ Rev h.revision → r ≡ pointwise nat_eq x y → r ≡ same (option short_text) e.revision h.revision
bytes_same e h x y r a b p q s =
    s ∙ same_bytes x y ∙ ap₂ (λ (u v : List ℕ). is_equal (order u v)) p q ∙ revisions_same e.revision h.revision (event_revision e a) (event_revision h b)

-- which mapper is newer, and whether the revisions differ
module _ (x y : List ℕ) (m n : ℕ) (e h : ProviderEvent) (E : VersionOf e x m) (H : VersionOf h y n) where
  pub replaces_is : {a d : Bool} → event_f.Ok e → event_f.Ok h → leb n m ≡ a → d ≡ not (pointwise nat_eq x y) → (a && (d || ltb n m)) ≡ replaces e h
  unfolding replaces
  replaces_is p q f g = rw (← f, g, E.mapper_is, H.mapper_is, bytes_same e h x y _ p q E.revision_is H.revision_is refl)

-- a revision's text in 34 bytes
pub revision_put : (text y : List ℕ) → short_text.Ok text → y ≡ text → 1 ∷ (length text ∷ (y ++ drop (2 + length text - 2) (zeros 32))) ≡ Rev (Some text)
unfolding padded option via enum ◌∣◌ text-format max_text
revision_put text y ok e =
    let l : length text ≤ 32 = ok.0 in
    let a : 2 + length text - 2 ≡ length text = omega arith in
    let b : 34 - suc (suc (length text)) ≡ 32 - length text = omega arith in
    rw (e, a, b, drop_zeros (length text) 32 l)

pub text_short : (text : List ℕ) → short_text.Ok text → length text ≤ 32
unfolding text-format max_text
text_short text ok = ok.0

pub has_is : (h : ProviderEvent) (x text y : List ℕ) (m : ℕ) (r : Bool) → event_f.Ok h → VersionOf h x m → short_text.Ok text → y ≡ Rev (Some text) → r ≡ pointwise nat_eq x y → r ≡ same (option short_text) h.revision (Some text)
unfolding option via enum ◌∣◌
has_is h x text y m r ok D t q s =
    s ∙ same_bytes x y ∙ ap₂ (λ (u v : List ℕ). is_equal (order u v)) D.revision_is q ∙ revisions_same h.revision (Some text) (event_revision h ok) t
