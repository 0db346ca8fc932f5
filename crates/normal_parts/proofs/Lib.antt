pub mod TellLaws
pub mod PartLaws
pub mod RisingLaws
pub mod WrittenLaws
pub mod KidLaws
pub mod NumberLaws
