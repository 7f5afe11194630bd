pub mod Trainless
