mod Grants
mod Searches
mod Whys
mod Pendings
mod Origins
mod Helds
mod RefusalExamples
