-- The X of a session, printed and read again.
use Rattle.std.proofs.Common.{◌≡◌, ◌∙◌, ◌++◌, ◌&&◌, ℕ, Bool, List, [], ◌∷◌, true, true≢false, sym, ap, refl, Some, append_assoc, append-nil, map, codes}
use Rattle.std.specs.Prelude.{decimal, option_and_then}
use Rattle.std.specs.List.{flat_map, list_all}
use Rattle.crypto_model.specs.declared.plain.CipherAlg.{CipherAlg}
use Rattle.crypto_model.specs.declared.plain.CipherAlg.TheVariants.{AesCbc, AesCtr}
use Rattle.crypto_model.specs.declared.plain.Dir.{Dir}
use Rattle.crypto_model.specs.declared.plain.Dir.TheVariants.{Encrypt, Decrypt}
use Rattle.crypto_model.specs.declared.plain.Act.{Act}
use Rattle.crypto_model.specs.declared.plain.Act.TheVariants.{Generate, Verify}
use Rattle.crypto_model.specs.declared.plain.Hash.{Hash}
use Rattle.crypto_model.specs.declared.plain.Hash.TheVariants.{Sha224, Sha256, Sha384, Sha512}
use Rattle.crypto_model.specs.Session.{is_chain}
use Rattle.sym_session.specs.Xform.{transform_of}
use Rattle.std.proofs.lemmas.Grind.{flat_map-append}
use Rattle.hex.specs.Hex.{encode_lower}
use Rattle.session_file.specs.Value.{Word, hex_bytes, is_hex, is_number, number}
use Rattle.session_file.specs.Form.{PartWords, CipherWords, AeadWords, AuthWords, act_of, alg_of, both_parts, dir_of, hash_of, more_parts, part_at, parts_of}
use Rattle.session_file.specs.Fault.{has_good_salt, has_hexes, has_numbers, part_salt, xform_of}
use Rattle.session_file.specs.Spelling.{act_word, alg_word, chain_text, dir_word, hash_word, spaced, xform_text}
use Rattle.crypto_model.proofs.Both.{both}
use Rattle.session_file.proofs.Words.{AreWords, AreWords-append, IsWord, IsWord-hex, IsWord-number}
use Rattle.session_file.proofs.Normal.{AreBytes-hex, hex_again, is_hex-encode, is_number-decimal, number_again, small_number}

-- ---- the words of an X, and its form

abbrev pub part_words : PartWords → List Word
part_words (CipherWords alg dir key salt) = alg_word alg ∷ dir_word dir ∷ key ∷ salt ∷ []
part_words (AeadWords dir key salt tag aad) = codes "gcm" ∷ dir_word dir ∷ key ∷ salt ∷ tag ∷ aad ∷ []
part_words (AuthWords hash act key len) = hash_word hash ∷ act_word act ∷ key ∷ len ∷ []

abbrev pub parts_words : List PartWords → List Word
parts_words [] = []
parts_words (p ∷ []) = part_words p
parts_words (p ∷ q ∷ rest) = part_words p ++ codes "+" ∷ part_words q

part_again : (p : PartWords) (rest : List Word) → part_at (part_words p ++ rest) ≡ Some (p, rest)
unfolding part_at alg_of dir_of hash_of act_of
part_again (CipherWords AesCbc Encrypt key salt) rest = refl
part_again (CipherWords AesCbc Decrypt key salt) rest = refl
part_again (CipherWords AesCtr Encrypt key salt) rest = refl
part_again (CipherWords AesCtr Decrypt key salt) rest = refl
part_again (AeadWords Encrypt key salt tag aad) rest = refl
part_again (AeadWords Decrypt key salt tag aad) rest = refl
part_again (AuthWords Sha224 Generate key len) rest = refl
part_again (AuthWords Sha224 Verify key len) rest = refl
part_again (AuthWords Sha256 Generate key len) rest = refl
part_again (AuthWords Sha256 Verify key len) rest = refl
part_again (AuthWords Sha384 Generate key len) rest = refl
part_again (AuthWords Sha384 Verify key len) rest = refl
part_again (AuthWords Sha512 Generate key len) rest = refl
part_again (AuthWords Sha512 Verify key len) rest = refl

part_alone : (p : PartWords) → part_at (part_words p) ≡ Some (p, [])
part_alone p = ap part_at (sym (append-nil (part_words p))) ∙ part_again p []

pub one_again : (p : PartWords) → parts_of (parts_words (p ∷ [])) ≡ Some (p ∷ [])
unfolding parts_of
one_again p = ap (option_and_then more_parts) (part_alone p)

pub two_again : (p q : PartWords) → parts_of (parts_words (p ∷ q ∷ [])) ≡ Some (p ∷ q ∷ [])
unfolding parts_of
two_again p q = ap (option_and_then more_parts) (part_again p (codes "+" ∷ part_words q)) ∙ ap (option_and_then (both_parts p)) (part_alone q)

-- ---- the same X as it is printed

abbrev pub printed_part : PartWords → PartWords
printed_part (CipherWords alg dir key salt) = CipherWords alg dir (encode_lower (hex_bytes key)) (encode_lower (hex_bytes salt))
printed_part (AeadWords dir key salt tag aad) =
    AeadWords dir (encode_lower (hex_bytes key)) (encode_lower (hex_bytes salt)) (decimal (number tag)) (decimal (number aad))
printed_part (AuthWords hash act key len) = AuthWords hash act (encode_lower (hex_bytes key)) (decimal (number len))

-- its HEX and NUMBER words are such, and its salt is good
abbrev pub is_read : PartWords → Bool
is_read p = has_numbers p && (has_hexes p && has_good_salt p)

-- the printed words are read as the first ones
pub record IsPrinted (p : PartWords) : Type 0 where
  pub numbers : has_numbers (printed_part p) ≡ true
  pub hexes : has_hexes (printed_part p) ≡ true
  pub salted : has_good_salt (printed_part p) ≡ true
  pub same : xform_of (printed_part p) ≡ xform_of p
  pub salt : part_salt (printed_part p) ≡ part_salt p
  pub words : AreWords (part_words (printed_part p))

alg_IsWord : (alg : CipherAlg) → IsWord (alg_word alg)
alg_IsWord AesCbc = record { some = refl; plain = refl }
alg_IsWord AesCtr = record { some = refl; plain = refl }

dir_IsWord : (dir : Dir) → IsWord (dir_word dir)
dir_IsWord Encrypt = record { some = refl; plain = refl }
dir_IsWord Decrypt = record { some = refl; plain = refl }

act_IsWord : (act : Act) → IsWord (act_word act)
act_IsWord Generate = record { some = refl; plain = refl }
act_IsWord Verify = record { some = refl; plain = refl }

hash_IsWord : (hash : Hash) → IsWord (hash_word hash)
hash_IsWord Sha224 = record { some = refl; plain = refl }
hash_IsWord Sha256 = record { some = refl; plain = refl }
hash_IsWord Sha384 = record { some = refl; plain = refl }
hash_IsWord Sha512 = record { some = refl; plain = refl }

-- a HEX as it is printed
record IsHexPrinted (w : Word) : Type 0 where
  hex : is_hex (encode_lower (hex_bytes w)) ≡ true
  same : hex_bytes (encode_lower (hex_bytes w)) ≡ hex_bytes w
  word : IsWord (encode_lower (hex_bytes w))

hex_printed : (w : Word) → is_hex w ≡ true → IsHexPrinted w
hex_printed w e =
    let are = AreBytes-hex w e in
    let hex : is_hex (encode_lower (hex_bytes w)) ≡ true = is_hex-encode (hex_bytes w) are in
    record { hex = hex; same = hex_again (hex_bytes w) are; word = IsWord-hex _ hex }

-- a NUMBER as it is printed
record IsNumberPrinted (w : Word) : Type 0 where
  digits : is_number (decimal (number w)) ≡ true
  same : number (decimal (number w)) ≡ number w
  word : IsWord (decimal (number w))

number_printed : (w : Word) → is_number w ≡ true → IsNumberPrinted w
number_printed w e =
    let is : is_number (decimal (number w)) ≡ true = is_number-decimal (number w) (small_number w e) in
    record { digits = is; same = number_again (number w) (small_number w e); word = IsWord-number _ is }

same_salt : (alg : CipherAlg) (dir : Dir) (key salt key' salt' : Word) → hex_bytes salt' ≡ hex_bytes salt
    → has_good_salt (CipherWords alg dir key' salt') ≡ has_good_salt (CipherWords alg dir key salt)
same_salt AesCbc dir key salt key' salt' e = rw e refl
same_salt AesCtr dir key salt key' salt' e = rw e refl

pub IsPrinted-part : (p : PartWords) → is_read p ≡ true → IsPrinted p
IsPrinted-part (CipherWords alg dir key salt) e =
    let hexes : has_hexes (CipherWords alg dir key salt) ≡ true = (both _ _ e).0 in
    let good : has_good_salt (CipherWords alg dir key salt) ≡ true = (both _ _ e).1 in
    let k = hex_printed key (both _ _ hexes).0 in
    let s = hex_printed salt (both _ _ (both _ _ hexes).1).0 in
    record {
      numbers = refl;
      hexes = rw (k.hex, s.hex) refl;
      salted = same_salt alg dir key salt _ _ s.same ∙ good;
      same = rw k.same refl;
      salt = s.same;
      words = (alg_IsWord alg, (dir_IsWord dir, (k.word, (s.word, tt))));
    }
IsPrinted-part (AeadWords dir key salt tag aad) e =
    let numbers : has_numbers (AeadWords dir key salt tag aad) ≡ true = (both _ _ e).0 in
    let hexes : has_hexes (AeadWords dir key salt tag aad) ≡ true = (both _ _ (both _ _ e).1).0 in
    let good : has_good_salt (AeadWords dir key salt tag aad) ≡ true = (both _ _ (both _ _ e).1).1 in
    let k = hex_printed key (both _ _ hexes).0 in
    let s = hex_printed salt (both _ _ (both _ _ hexes).1).0 in
    let t = number_printed tag (both _ _ numbers).0 in
    let a = number_printed aad (both _ _ (both _ _ numbers).1).0 in
    record {
      numbers = rw (t.digits, a.digits) refl;
      hexes = rw (k.hex, s.hex) refl;
      salted = rw s.same good;
      same = rw (k.same, t.same, a.same) refl;
      salt = s.same;
      words = (record { some = refl; plain = refl }, (dir_IsWord dir, (k.word, (s.word, (t.word, (a.word, tt))))));
    }
IsPrinted-part (AuthWords hash act key len) e =
    let numbers : has_numbers (AuthWords hash act key len) ≡ true = (both _ _ e).0 in
    let hexes : has_hexes (AuthWords hash act key len) ≡ true = (both _ _ (both _ _ e).1).0 in
    let k = hex_printed key (both _ _ hexes).0 in
    let l = number_printed len (both _ _ numbers).0 in
    record {
      numbers = rw l.digits refl;
      hexes = rw k.hex refl;
      salted = refl;
      same = rw (k.same, l.same) refl;
      salt = refl;
      words = (hash_IsWord hash, (act_IsWord act, (k.word, (l.word, tt))));
    }

IsPrinted-read : (p : PartWords) → has_numbers p ≡ true → has_hexes p ≡ true → has_good_salt p ≡ true → IsPrinted p
IsPrinted-read p numbers hexes salted = IsPrinted-part p (rw (numbers, hexes, salted) refl)

-- ---- the text of an X

-- the salt is that of the X, if it has one
abbrev pub IsSaltOf : List ℕ → PartWords → Type 0
IsSaltOf bytes (CipherWords alg dir key salt) = bytes ≡ hex_bytes salt
IsSaltOf bytes (AeadWords dir key salt tag aad) = bytes ≡ hex_bytes salt
IsSaltOf bytes (AuthWords hash act key len) = Unit {0}

four_spelled : (a b c d : Word) → spaced a ++ spaced b ++ spaced c ++ spaced d ≡ flat_map spaced (a ∷ b ∷ c ∷ d ∷ [])
four_spelled a b c d = simp (append_assoc, append-nil)

six_spelled : (a b c d e f : Word) → spaced a ++ spaced b ++ spaced c ++ spaced d ++ spaced e ++ spaced f ≡ flat_map spaced (a ∷ b ∷ c ∷ d ∷ e ∷ f ∷ [])
six_spelled a b c d e f = simp (append_assoc, append-nil)

pub part_spelled : (bytes : List ℕ) (p : PartWords) → IsSaltOf bytes p → xform_text bytes (xform_of p) ≡ flat_map spaced (part_words (printed_part p))
unfolding xform_text
part_spelled bytes (CipherWords alg dir key salt) e =
    ap (λ (x : List ℕ). spaced (alg_word alg) ++ spaced (dir_word dir) ++ spaced (encode_lower (hex_bytes key)) ++ spaced (encode_lower x)) e
    ∙ four_spelled (alg_word alg) (dir_word dir) (encode_lower (hex_bytes key)) (encode_lower (hex_bytes salt))
part_spelled bytes (AeadWords dir key salt tag aad) e =
    ap (λ (x : List ℕ). spaced (codes "gcm") ++ spaced (dir_word dir) ++ spaced (encode_lower (hex_bytes key)) ++ spaced (encode_lower x) ++ spaced (decimal (number tag)) ++ spaced (decimal (number aad))) e
    ∙ six_spelled (codes "gcm") (dir_word dir) (encode_lower (hex_bytes key)) (encode_lower (hex_bytes salt)) (decimal (number tag)) (decimal (number aad))
part_spelled bytes (AuthWords hash act key len) e =
    four_spelled (hash_word hash) (act_word act) (encode_lower (hex_bytes key)) (decimal (number len))

-- the parts of a session: one, or a cipher and a code in either order
pub data Shape : List PartWords → Type 0 where
  Lone : (p : PartWords) → Shape (p ∷ [])
  CipherFirst : (alg : CipherAlg) (dir : Dir) (key salt : Word) (hash : Hash) (act : Act) (mac len : Word)
      → Shape (CipherWords alg dir key salt ∷ AuthWords hash act mac len ∷ [])
  AuthFirst : (hash : Hash) (act : Act) (mac len : Word) (alg : CipherAlg) (dir : Dir) (key salt : Word)
      → Shape (AuthWords hash act mac len ∷ CipherWords alg dir key salt ∷ [])

pub shape_of : (parts : List PartWords) → is_chain (map transform_of (map xform_of parts)) ≡ true → Shape parts
shape_of [] e = absurd (true≢false (sym e))
shape_of (p ∷ []) e = Lone p
shape_of (CipherWords alg Encrypt key salt ∷ CipherWords alg' dir' key' salt' ∷ rest) e = absurd (true≢false (sym e))
shape_of (CipherWords alg Encrypt key salt ∷ AeadWords dir' key' salt' tag aad ∷ rest) e = absurd (true≢false (sym e))
shape_of (CipherWords alg Encrypt key salt ∷ AuthWords hash act mac len ∷ []) e = CipherFirst alg Encrypt key salt hash act mac len
shape_of (CipherWords alg Encrypt key salt ∷ AuthWords hash Generate mac len ∷ x ∷ rest) e = absurd (true≢false (sym e))
shape_of (CipherWords alg Encrypt key salt ∷ AuthWords hash Verify mac len ∷ x ∷ rest) e = absurd (true≢false (sym e))
shape_of (CipherWords alg Decrypt key salt ∷ CipherWords alg' dir' key' salt' ∷ rest) e = absurd (true≢false (sym e))
shape_of (CipherWords alg Decrypt key salt ∷ AeadWords dir' key' salt' tag aad ∷ rest) e = absurd (true≢false (sym e))
shape_of (CipherWords alg Decrypt key salt ∷ AuthWords hash act mac len ∷ []) e = CipherFirst alg Decrypt key salt hash act mac len
shape_of (CipherWords alg Decrypt key salt ∷ AuthWords hash Generate mac len ∷ x ∷ rest) e = absurd (true≢false (sym e))
shape_of (CipherWords alg Decrypt key salt ∷ AuthWords hash Verify mac len ∷ x ∷ rest) e = absurd (true≢false (sym e))
shape_of (AuthWords hash Generate mac len ∷ AuthWords hash' act' mac' len' ∷ rest) e = absurd (true≢false (sym e))
shape_of (AuthWords hash Generate mac len ∷ AeadWords dir' key' salt' tag aad ∷ rest) e = absurd (true≢false (sym e))
shape_of (AuthWords hash Generate mac len ∷ CipherWords alg dir key salt ∷ []) e = AuthFirst hash Generate mac len alg dir key salt
shape_of (AuthWords hash Generate mac len ∷ CipherWords alg Encrypt key salt ∷ x ∷ rest) e = absurd (true≢false (sym e))
shape_of (AuthWords hash Generate mac len ∷ CipherWords alg Decrypt key salt ∷ x ∷ rest) e = absurd (true≢false (sym e))
shape_of (AuthWords hash Verify mac len ∷ AuthWords hash' act' mac' len' ∷ rest) e = absurd (true≢false (sym e))
shape_of (AuthWords hash Verify mac len ∷ AeadWords dir' key' salt' tag aad ∷ rest) e = absurd (true≢false (sym e))
shape_of (AuthWords hash Verify mac len ∷ CipherWords alg dir key salt ∷ []) e = AuthFirst hash Verify mac len alg dir key salt
shape_of (AuthWords hash Verify mac len ∷ CipherWords alg Encrypt key salt ∷ x ∷ rest) e = absurd (true≢false (sym e))
shape_of (AuthWords hash Verify mac len ∷ CipherWords alg Decrypt key salt ∷ x ∷ rest) e = absurd (true≢false (sym e))
shape_of (AeadWords dir key salt tag aad ∷ x ∷ rest) e = absurd (true≢false (sym e))

-- the salt of a session is that of each part that has one
lone_salt : (p : PartWords) → IsSaltOf (flat_map part_salt (p ∷ [])) p
lone_salt (CipherWords alg dir key salt) = append-nil (hex_bytes salt)
lone_salt (AeadWords dir key salt tag aad) = append-nil (hex_bytes salt)
lone_salt (AuthWords hash act key len) = tt

joined : (vs ws : List Word) → flat_map spaced vs ++ spaced (codes "+") ++ flat_map spaced ws ≡ flat_map spaced (vs ++ codes "+" ∷ ws)
joined vs ws = append_assoc (flat_map spaced vs) (spaced (codes "+")) (flat_map spaced ws) ∙ sym (flat_map-append spaced vs (codes "+" ∷ ws))

two_spelled : (bytes : List ℕ) (p q : PartWords) → IsSaltOf bytes p → IsSaltOf bytes q
    → chain_text bytes (map xform_of (p ∷ q ∷ [])) ≡ flat_map spaced (parts_words (map printed_part (p ∷ q ∷ [])))
unfolding chain_text
two_spelled bytes p q first second =
    ap (λ (x : List ℕ). x ++ spaced (codes "+") ++ xform_text bytes (xform_of q)) (part_spelled bytes p first)
    ∙ (ap (λ (x : List ℕ). flat_map spaced (part_words (printed_part p)) ++ spaced (codes "+") ++ x) (part_spelled bytes q second)
    ∙ joined (part_words (printed_part p)) (part_words (printed_part q)))

pub chain_spelled : (parts : List PartWords) → Shape parts
    → chain_text (flat_map part_salt parts) (map xform_of parts) ≡ flat_map spaced (parts_words (map printed_part parts))
unfolding chain_text
chain_spelled parts (Lone p) = part_spelled (flat_map part_salt (p ∷ [])) p (lone_salt p)
chain_spelled parts (CipherFirst alg dir key salt hash act mac len) =
    two_spelled (hex_bytes salt ++ []) (CipherWords alg dir key salt) (AuthWords hash act mac len) (append-nil (hex_bytes salt)) tt
chain_spelled parts (AuthFirst hash act mac len alg dir key salt) =
    two_spelled (hex_bytes salt ++ []) (AuthWords hash act mac len) (CipherWords alg dir key salt) tt (append-nil (hex_bytes salt))

pub chain_again : (parts : List PartWords) → Shape parts → parts_of (parts_words (map printed_part parts)) ≡ Some (map printed_part parts)
chain_again parts (Lone p) = one_again (printed_part p)
chain_again parts (CipherFirst alg dir key salt hash act mac len) =
    two_again (printed_part (CipherWords alg dir key salt)) (printed_part (AuthWords hash act mac len))
chain_again parts (AuthFirst hash act mac len alg dir key salt) =
    two_again (printed_part (AuthWords hash act mac len)) (printed_part (CipherWords alg dir key salt))

-- the printed words of a session are read as the first ones
pub record ArePrinted (parts : List PartWords) : Type 0 where
  pub numbers : list_all has_numbers (map printed_part parts) ≡ true
  pub hexes : list_all has_hexes (map printed_part parts) ≡ true
  pub salted : list_all has_good_salt (map printed_part parts) ≡ true
  pub same : map xform_of (map printed_part parts) ≡ map xform_of parts
  pub salt : flat_map part_salt (map printed_part parts) ≡ flat_map part_salt parts

pub ArePrinted-parts : (parts : List PartWords) → list_all has_numbers parts ≡ true → list_all has_hexes parts ≡ true → list_all has_good_salt parts ≡ true
    → ArePrinted parts
ArePrinted-parts [] numbers hexes salted = record { numbers = refl; hexes = refl; salted = refl; same = refl; salt = refl }
ArePrinted-parts (p ∷ parts) numbers hexes salted =
    let rest = ArePrinted-parts parts (both _ _ numbers).1 (both _ _ hexes).1 (both _ _ salted).1 in
    let first = IsPrinted-read p (both _ _ numbers).0 (both _ _ hexes).0 (both _ _ salted).0 in
    record {
      numbers = rw (first.numbers, rest.numbers) refl;
      hexes = rw (first.hexes, rest.hexes) refl;
      salted = rw (first.salted, rest.salted) refl;
      same = rw (first.same, rest.same) refl;
      salt = rw (first.salt, rest.salt) refl;
    }

two_words : (p q : PartWords) → list_all has_numbers (p ∷ q ∷ []) ≡ true → list_all has_hexes (p ∷ q ∷ []) ≡ true → list_all has_good_salt (p ∷ q ∷ []) ≡ true
    → AreWords (parts_words (map printed_part (p ∷ q ∷ [])))
two_words p q numbers hexes salted =
    let first = IsPrinted-read p (both _ _ numbers).0 (both _ _ hexes).0 (both _ _ salted).0 in
    let second = IsPrinted-read q (both _ _ (both _ _ numbers).1).0 (both _ _ (both _ _ hexes).1).0 (both _ _ (both _ _ salted).1).0 in
    AreWords-append (part_words (printed_part p)) (codes "+" ∷ part_words (printed_part q)) first.words (record { some = refl; plain = refl }, second.words)

pub AreWords-parts : (parts : List PartWords) → Shape parts → list_all has_numbers parts ≡ true → list_all has_hexes parts ≡ true → list_all has_good_salt parts ≡ true
    → AreWords (parts_words (map printed_part parts))
AreWords-parts parts (Lone p) numbers hexes salted =
    (IsPrinted-read p (both _ _ numbers).0 (both _ _ hexes).0 (both _ _ salted).0).words
AreWords-parts parts (CipherFirst alg dir key salt hash act mac len) numbers hexes salted =
    two_words (CipherWords alg dir key salt) (AuthWords hash act mac len) numbers hexes salted
AreWords-parts parts (AuthFirst hash act mac len alg dir key salt) numbers hexes salted =
    two_words (AuthWords hash act mac len) (CipherWords alg dir key salt) numbers hexes salted
