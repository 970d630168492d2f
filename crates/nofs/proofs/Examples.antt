-- Words, and the images that they name.
use Rattle.std.proofs.Common.{◌≡◌, refl}
use Rattle.std.specs.Prelude.{Some, None, codes}
use Rattle.nofs.specs.Image.{image_in, InMemory, InFile, InMirror}
use Rattle.nofs_pages.specs.declared.layout.Layout.TheVariants.{Packed, Paged, Twin}

memory : image_in (codes "-") ≡ Some InMemory
memory = refl

file : image_in (codes "disk.img") ≡ Some (InFile Packed (codes "disk.img"))
file = refl

file-mirror : image_in (codes "mirror") ≡ Some (InFile Packed (codes "mirror"))
file-mirror = refl

mirror : image_in (codes "mirror:64:a.img:b.img") ≡ Some (InMirror Packed 64 (codes "a.img") (codes "b.img"))
mirror = refl

too-few : image_in (codes "mirror:15:a.img:b.img") ≡ None
too-few = refl

too-many : image_in (codes "mirror:1048577:a.img:b.img") ≡ None
too-many = refl

zero-in-front : image_in (codes "mirror:064:a.img:b.img") ≡ None
zero-in-front = refl

one-side : image_in (codes "mirror:64:a.img") ≡ None
one-side = refl

three-sides : image_in (codes "mirror:64:a.img:b.img:c.img") ≡ None
three-sides = refl

no-lead : image_in (codes "mirror:64::b.img") ≡ None
no-lead = refl

memory-as-a-side : image_in (codes "mirror:64:a.img:-") ≡ None
memory-as-a-side = refl

paged : image_in (codes "paged:disk.img") ≡ Some (InFile Paged (codes "disk.img"))
paged = refl

paged-with-a-colon : image_in (codes "paged:a:b") ≡ Some (InFile Paged (codes "a:b"))
paged-with-a-colon = refl

paged-of-nothing : image_in (codes "paged:") ≡ None
paged-of-nothing = refl

paged-in-memory : image_in (codes "paged:-") ≡ None
paged-in-memory = refl

no-parts : image_in (codes "mirror:") ≡ None
no-parts = refl

paged-mirror : image_in (codes "paged:mirror:64:a.img:b.img") ≡ Some (InMirror Paged 64 (codes "a.img") (codes "b.img"))
paged-mirror = refl

paged-mirror-of-one : image_in (codes "paged:mirror:64:a.img") ≡ None
paged-mirror-of-one = refl

paged-twice : image_in (codes "paged:paged:a.img") ≡ Some (InFile Paged (codes "paged:a.img"))
paged-twice = refl

twin : image_in (codes "twin:disk.img") ≡ Some (InFile Twin (codes "disk.img"))
twin = refl

twin-mirror : image_in (codes "twin:mirror:64:a.img:b.img") ≡ Some (InMirror Twin 64 (codes "a.img") (codes "b.img"))
twin-mirror = refl

twin-of-nothing : image_in (codes "twin:") ≡ None
twin-of-nothing = refl
