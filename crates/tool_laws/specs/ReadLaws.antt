-- What is read of a line by places is what the line says.
-- Assumes nothing.
use Rattle.std.specs.Prelude.{ℕ, Bool, ◌&&◌, ◌||◌, List, [], ◌≡◌, eqb, ltb, length, get_or, drop, Some, None}
use Rattle.std.proofs.Math.Bool.{true, false, and-eq-true_iff}
use Rattle.std.proofs.Math.Path.{sym, refl}
use Rattle.std.proofs.Common.{ap, ◌∙◌}
use Rattle.std.proofs.lemmas.Slice.Eq.{bytes_eq-Decides}
use Rattle.tool_lines.specs.Line.{fields, sameb, decimal, numberb, readable, asked, read_line}
use Rattle.tool_lines.specs.ReadLaws.{passes_readable}
use Rattle.tool_laws.specs.Fields.{rest, NumberAt}
use Rattle.tool_laws.specs.FieldsLaws.{behind_line, at_field}
use Rattle.tool_laws.specs.Read.{Read, Is, Told, test}

-- words with the same bytes
pub sameb_true : (a b : List ℕ) → sameb a b ≡ true → a ≡ b
sameb_true a b h = (bytes_eq-Decides a b).0 h

pub sameb_refl : (a : List ℕ) → sameb a a ≡ true
sameb_refl a = (bytes_eq-Decides a a).1 refl

-- what a comparison told
pub same_told : (a b : List ℕ) (r : Bool) → (r ≡ true → a ≡ b) × (a ≡ b → r ≡ true) → r ≡ sameb a b
same_told a b true h = sym ((bytes_eq-Decides a b).1 (h.0 refl))
same_told a b false h = go (sameb a b) refl
  where
    go : (t : Bool) → sameb a b ≡ t → false ≡ t
    go true e = h.1 (sameb_true a b e)
    go false e = refl

pub told : {line word : List ℕ} {from : ℕ} {incoming outgoing : Bool} {e m o a l z : NumberAt} → Read line word from incoming outgoing e m o a l z →
    Told (fields line) incoming outgoing (ltb (length line) z.next) e m o a l z
told {line} {word} {from} {e = e} {m = m} {o = o} {a = a} {l = l} {z = z} r =
    let fs = fields line in
    let w : word ≡ get_or fs 0 [] = rw r.word_is in
    let s : rest line from ≡ drop 1 fs = rw r.word_is in
    let e' = at_field line fs 1 from e s r.e_is in
    let m' = at_field line fs 2 e.next m e'.1 r.m_is in
    let o' = at_field line fs 3 m.next o m'.1 r.o_is in
    let a' = at_field line fs 4 o.next a o'.1 r.a_is in
    let l' = at_field line fs 5 a.next l a'.1 r.l_is in
    let z' = at_field line fs 6 l.next z l'.1 r.z_is in
    record {
      in_is = r.in_is ∙ rw w;
      out_is = r.out_is ∙ rw w;
      e_is = e'.0;
      m_is = m'.0;
      o_is = o'.0;
      a_is = a'.0;
      l_is = l'.0;
      z_is = z'.0;
      whole_is = behind_line line z.next ∙ rw z'.1;
    }

pub tested : {fs : List (List ℕ)} {incoming outgoing whole : Bool} {e m o a l z : NumberAt} → Told fs incoming outgoing whole e m o a l z →
    test incoming outgoing whole e m o a l z ≡ readable fs
tested {fs} t =
    rw (t.in_is, t.out_is, t.whole_is, t.e_is.0, t.m_is.0, t.o_is.0, t.a_is.0, t.l_is.0, t.z_is.0, t.z_is.1)
    (passes_readable fs)

pub value_is : (fs : List (List ℕ)) (k : ℕ) (n : NumberAt) → Is fs k n → n.fits ≡ true → n.value ≡ decimal (get_or fs k [])
value_is fs k n p h =
    let y : numberb (get_or fs k []) ≡ true = sym p.0 ∙ h in
    p.1 ∙ rw y

pub all_six : (e m o a l z : Bool) → (((((e && m) && o) && a) && l) && z) ≡ true →
    (e ≡ true) × (m ≡ true) × (o ≡ true) × (a ≡ true) × (l ≡ true) × (z ≡ true)
all_six e m o a l z h =
    let z' = (and-eq-true_iff ((((e && m) && o) && a) && l) z).0 h in
    let l' = (and-eq-true_iff (((e && m) && o) && a) l).0 z'.0 in
    let a' = (and-eq-true_iff ((e && m) && o) a).0 l'.0 in
    let o' = (and-eq-true_iff (e && m) o).0 a'.0 in
    let m' = (and-eq-true_iff e m).0 o'.0 in
    (m'.0, m'.1, o'.1, a'.1, l'.1, z'.1)

pub the_values : {fs : List (List ℕ)} {incoming outgoing whole : Bool} {e m o a l z : NumberAt} → Told fs incoming outgoing whole e m o a l z →
    test incoming outgoing whole e m o a l z ≡ true →
    record {
      incoming = incoming;
      endpoint = e.value;
      max_packet_size = m.value;
      own = o.value;
      address = a.value;
      length = l.value;
      zlp = eqb z.value 1;
    } ≡ asked fs
the_values {fs} {incoming} {outgoing} {whole} {e} {m} {o} {a} {l} {z} t h =
    let words = incoming || outgoing in
    let numbers = ((((e.fits && m.fits) && o.fits) && a.fits) && l.fits) && z.fits in
    let small = ((and-eq-true_iff ((words && numbers) && ltb z.value 2) whole).0 h).0 in
    let known = ((and-eq-true_iff (words && numbers) (ltb z.value 2)).0 small).0 in
    let six = all_six e.fits m.fits o.fits a.fits l.fits z.fits ((and-eq-true_iff words numbers).0 known).1 in
    rw (
      t.in_is,
      value_is fs 1 e t.e_is six.0,
      value_is fs 2 m t.m_is six.1,
      value_is fs 3 o t.o_is six.2,
      value_is fs 4 a t.a_is six.3,
      value_is fs 5 l t.l_is six.4,
      value_is fs 6 z t.z_is six.5,
    )

module _ {line word : List ℕ} {from : ℕ} {incoming outgoing : Bool} {e m o a l z : NumberAt} where
  pub line_refused : Read line word from incoming outgoing e m o a l z →
      test incoming outgoing (ltb (length line) z.next) e m o a l z ≡ false → None ≡ read_line line
  unfolding read_line
  line_refused r h =
      let n : readable (fields line) ≡ false = sym (tested (told r)) ∙ h in
      rw n

  pub line_read : Read line word from incoming outgoing e m o a l z →
      test incoming outgoing (ltb (length line) z.next) e m o a l z ≡ true →
      Some (record {
        incoming = incoming;
        endpoint = e.value;
        max_packet_size = m.value;
        own = o.value;
        address = a.value;
        length = l.value;
        zlp = eqb z.value 1;
      }) ≡ read_line line
  unfolding read_line
  line_read r h =
      let n : readable (fields line) ≡ true = sym (tested (told r)) ∙ h in
      rw n (ap Some (the_values (told r) h))
